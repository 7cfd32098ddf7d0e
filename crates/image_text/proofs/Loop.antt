-- Reading items one after another, as a loop does.
use Rattle.std.proofs.Common.{◌≡◌, ℕ, zero, suc, ◌-◌, ◌+◌, ◌≤◌, ◌<◌, List, Result, Ok, Err, refl, sym, ◌∙◌, arith}
use Rattle.image_text.specs.declared.image.Stop.{Stop}
use Rattle.image_text.specs.declared.image.Stop.TheVariants.{Fault, Memory}
use Rattle.image_text.specs.Reading.{◌>>=◌, Read, Fails, repeat}

pub goes_on : {S : Type 0} (item : S → List ℕ → Read S) (count i : ℕ) (s t : S) (bytes after : List ℕ) (total : Read S) → i < count → item s bytes ≡ Ok (t, after)
    → repeat item (count - i) s bytes ≡ total → repeat item (count - (i + 1)) t after ≡ total
unfolding repeat
goes_on item count i s t bytes after total lt h so_far =
    let k : count - i ≡ suc (count - (i + 1)) = omega arith in
    let one : repeat item (count - i) s bytes ≡ repeat item (count - (i + 1)) t after = rw (k, h) refl in
    sym one ∙ so_far

pub ends : {S : Type 0} (e : Stop) (item : S → List ℕ → Read S) (count i : ℕ) (s : S) (bytes : List ℕ) (total : Read S) → i < count → Fails e (item s bytes)
    → repeat item (count - i) s bytes ≡ total → Fails e total
unfolding repeat
ends Memory item count i s bytes total lt h so_far = tt
ends (Fault f) item count i s bytes total lt h so_far =
    let k : count - i ≡ suc (count - (i + 1)) = omega arith in
    let one : repeat item (count - i) s bytes ≡ Err f = rw (k, h) refl in
    sym so_far ∙ one

pub is_done : {S : Type 0} (item : S → List ℕ → Read S) (count i : ℕ) (s : S) (bytes : List ℕ) (total : Read S) → count ≤ i → repeat item (count - i) s bytes ≡ total → total ≡ Ok (s, bytes)
unfolding repeat
is_done item count i s bytes total le so_far =
    let k : count - i ≡ 0 = omega arith in
    let one : repeat item (count - i) s bytes ≡ Ok (s, bytes) = rw k refl in
    sym so_far ∙ one

-- the value of a step that did not fail
pub bind_ok : {A B : Type 0} (r : Result A ℕ) (f : A → Result B ℕ) (y : B) → (r >>= f) ≡ Ok y → (x : A) × (r ≡ Ok x) × (f x ≡ Ok y)
bind_ok (Ok x) f y e = (x, refl, e)
bind_ok (Err d) f y e = absurd cc

abbrev done : {A : Type 0} → A → Result A ℕ
done x = Ok x

pub ok_is : {A : Type 0} (x y : A) → done x ≡ done y → x ≡ y
ok_is x y e = cc
