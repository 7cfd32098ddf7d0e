-- Which of two files counts.
use Rattle.std.proofs.Common.{◌≡◌, ℕ, ◌&&◌, nat_lt, cond, Bool, true, false, List, refl, sym, ◌∙◌, ap, subst, Option, Some, None}
use Rattle.generations.specs.declared.header.Header.{Header}
use Rattle.generations.specs.Headers.{IsHeaderOf}
use Rattle.generations.specs.Files.{Files, no_header, has_header, generation_of, counting, reads}
use Rattle.generations.specs.Picks.{pick_of}
use Rattle.generations.specs.Looks.{IsPicked, SaysPicked}
use Rattle.db_outside.specs.declared.disk.Disk.{Ghosts}
use Rattle.generations.specs.declared.pair.Pair.{Pair}

neither : (p q r : Bool) (x y z w : Files) → p ≡ false → r ≡ false → cond p (cond q x y) (cond r z w) ≡ w
neither true q r x y z w a b = absurd (cc a)
neither false q true x y z w a b = absurd (cc b)
neither false q false x y z w a b = refl

only_second : (p q r : Bool) (x y z w : Files) → p ≡ false → r ≡ true → cond p (cond q x y) (cond r z w) ≡ z
only_second true q r x y z w a b = absurd (cc a)
only_second false q true x y z w a b = refl
only_second false q false x y z w a b = absurd (cc b)

of_both : (p q r : Bool) (x y z w : Files) → p ≡ true → cond p (cond q x y) (cond r z w) ≡ cond q x y
of_both true q r x y z w a = refl
of_both false q r x y z w a = absurd (cc a)

module _ (c d : List ℕ) where
  abbrev newer : Bool
  newer = has_header d && nat_lt (generation_of c) (generation_of d)

  pub picked_is : (a b : Option Header) → IsHeaderOf a c → IsHeaderOf b d → IsPicked (pick_of a b) c d
  picked_is None None p q = neither (has_header c) newer (has_header d) (counting 1 d) (counting 0 c) (counting 1 d) no_header p q
  picked_is None (Some k) p q = (only_second (has_header c) newer (has_header d) (counting 1 d) (counting 0 c) (counting 1 d) no_header p q.0, q.0, q.1)
  picked_is (Some h) None p q = (
    of_both (has_header c) newer (has_header d) (counting 1 d) (counting 0 c) (counting 1 d) no_header p.0
        ∙ ap (λ (x : Bool). cond (x && nat_lt (generation_of c) (generation_of d)) (counting 1 d) (counting 0 c)) q,
    p.0,
    p.1,
  )
  picked_is (Some h) (Some k) p q = by (nat_lt h.generation k.generation) refl
    where
      test : nat_lt h.generation k.generation ≡ newer
      test =
          ap (λ (n : ℕ). nat_lt n k.generation) p.1.generation ∙ ap (λ (n : ℕ). nat_lt (generation_of c) n) q.1.generation
          ∙ sym (ap (λ (x : Bool). x && nat_lt (generation_of c) (generation_of d)) q.0)

      way : reads c d ≡ cond newer (counting 1 d) (counting 0 c)
      way = of_both (has_header c) newer (has_header d) (counting 1 d) (counting 0 c) (counting 1 d) no_header p.0

      by : (x : Bool) → nat_lt h.generation k.generation ≡ x → IsPicked (cond (nat_lt h.generation k.generation) (Some (true, k)) (Some (false, h))) c d
      by true is = subst (λ (x : Bool). IsPicked (cond x (Some (true, k)) (Some (false, h))) c d) (sym is) (way ∙ ap (λ (x : Bool). cond x (counting 1 d) (counting 0 c)) (sym test ∙ is), q.0, q.1)
      by false is = subst (λ (x : Bool). IsPicked (cond x (Some (true, k)) (Some (false, h))) c d) (sym is) (way ∙ ap (λ (x : Bool). cond x (counting 1 d) (counting 0 c)) (sym test ∙ is), p.0, p.1)

module _ {D : Type 0} (g : Ghosts D) (disks : Pair D) where
  pub says_picked : (a b : Option Header) → ((s : List ℕ) → g.seen disks.first ≡ Some s → IsHeaderOf a s) → ((s : List ℕ) → g.seen disks.second ≡ Some s → IsHeaderOf b s) → SaysPicked g disks (pick_of a b)
  says_picked None None p q = tt
  says_picked None (Some k) p q = q
  says_picked (Some h) None p q = p
  says_picked (Some h) (Some k) p q = by (nat_lt h.generation k.generation)
    where
      by : (x : Bool) → SaysPicked g disks (cond x (Some (true, k)) (Some (false, h)))
      by true = q
      by false = p
