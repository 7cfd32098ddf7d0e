-- Names of versions that are spelled alike.
use Rattle.std.proofs.Common.{◌≡◌, ◌&&◌, ℕ, true, List, [], ◌∷◌, Option, Some, None, refl, ap, sym, ◌∙◌}
use Rattle.std.proofs.lemmas.Bool.{and_parts, eq-eqb, eqb-true, false≢true}
use Rattle.std.specs.Cmp.Lexicographic.{same_text}
use Rattle.db_value.specs.Text.{same}
use Rattle.db_value.specs.declared.version.VersionName.{VersionName}
use Rattle.branch_tx.specs.Granted.{same_position, same_version}

position_is : (p q : Option ℕ) → same_position p q ≡ true → p ≡ q
position_is None None e = refl
position_is None (Some m) e = absurd (false≢true e)
position_is (Some n) None e = absurd (false≢true e)
position_is (Some n) (Some m) e = ap Some (eqb-true n m e)

-- they are one
pub version_is : (u v : VersionName) → same_version u v ≡ true → u ≡ v
version_is u v e =
    let parts = and_parts (same u.branch v.branch) (same_position u.position v.position) e in
    let name = same_text u.branch v.branch (sym parts.0) in
    let place = position_is u.position v.position parts.1 in
    λ i. record { branch = name i; position = place i }

-- a name is spelled as itself
pub same_self : (name : List ℕ) → same name name ≡ true
same_self [] = refl
same_self (c ∷ cs) = ap (λ q. q && same cs cs) (eq-eqb c c refl) ∙ same_self cs

same_place : (p : Option ℕ) → same_position p p ≡ true
same_place None = refl
same_place (Some n) = eq-eqb n n refl

pub same_name : (v : VersionName) → same_version v v ≡ true
same_name v = ap (λ q. q && same_position v.position v.position) (same_self v.branch) ∙ same_place v.position
