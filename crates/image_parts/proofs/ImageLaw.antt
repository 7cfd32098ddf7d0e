-- The bytes of an image are its one spelling.
use Rattle.std.proofs.Common.{◌≡◌, ℕ, Bool, true, false, cond, List, Result, Ok, Err, refl, sym, ap, subst, ◌∙◌}
use Rattle.image_text.specs.declared.image.Format.{Format}
use Rattle.image_text.specs.declared.image.Image.{Image}
use Rattle.image_text.specs.Reading.{parts_at}
use Rattle.image_text.specs.Spelling.{spelling}
use Rattle.image_text.specs.Laws.{IsBytes, IsSpelled}
use Rattle.image_text.proofs.Loop.{bind_ok, ok_is}
use Rattle.image_text.proofs.WholeLaw.{parts_are}
use Rattle.image_parts.specs.Whole.{is_whole, image_at}

abbrev done : {A : Type 0} → A → Result A ℕ
done x = Ok x

whole_ok : (w : Bool) (p i : Image) → cond w (done p) (Err 0) ≡ Ok i → p ≡ i
whole_ok true p i e = ok_is p i e
whole_ok false p i e = absurd cc

-- an image that is read has a spelling, and is spelled so
pub image_is : (format : Format) (b : List ℕ) (i : Image) → IsBytes b → image_at format b ≡ Ok i → IsSpelled format b i
unfolding image_at
image_is format b i fits e =
    let p = bind_ok (parts_at format b) (λ parts. cond (is_whole parts.0 parts.1) (done parts.0) (Err 0)) i e in
    subst (λ (j : Image). IsSpelled format b j) (whole_ok (is_whole p.0.0 p.0.1) p.0.0 i p.2) (parts_are format b p.0 fits p.1)

pub one_spelling : (format : Format) (a b : List ℕ) (i : Image) → IsBytes a → IsBytes b → image_at format a ≡ Ok i → image_at format b ≡ Ok i → a ≡ b
one_spelling format a b i fa fb ea eb = (image_is format a i fa ea).same ∙ sym (image_is format b i fb eb).same

pub read_again : (format : Format) (b : List ℕ) (i : Image) → IsBytes b → image_at format b ≡ Ok i → image_at format (spelling format i) ≡ Ok i
read_again format b i fits e = subst (λ (t : List ℕ). image_at format t ≡ Ok i) (image_is format b i fits e).same e
