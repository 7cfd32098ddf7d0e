-- The records that changes put into a relation, change by change.
use Rattle.std.proofs.Common.{◌≡◌, ℕ, zero, suc, ◌+◌, ◌<◌, ◌≤◌, ◌==◌, Bool, true, false, List, [], ◌∷◌, ◌++◌, length, drop, get_or, Option, Some, None, IfSome, is_some, refl, arith, ap, sym, ◌∙◌}
use Rattle.std.proofs.lemmas.Bool.{eq-eqb}
use Rattle.std.proofs.lemmas.List.{get_or_append_left, get_or-append-add, length-append}
use Rattle.db_value.specs.Value.{Value}
use Rattle.db_value.specs.Widths.{meets}
use Rattle.db_value.specs.PackedChanges.{change_here}
use Rattle.db_value.specs.declared.record.Record.{Record}
use Rattle.db_value.specs.declared.entry.Change.{Change}
use Rattle.db_store.specs.LayoutGrowth.{put_before, puts}
use Rattle.db_store.proofs.WorkLemmas.{read_is}
use Rattle.segment.specs.Pages.{AreWide}

abbrev no_change : Change
no_change = record { relation = 0; key = 0; fields = None; widths = None }

put_first : (b : Bool) (key : ℕ) (f : Option (List Value)) (rest : List Record) → put_before b key f rest ≡ put_before b key f [] ++ rest
put_first true key (Some f) rest = refl
put_first true key None rest = refl
put_first false key f rest = refl

puts_from : (cs : List Change) (r i : ℕ) (z : Change) → i < length cs → puts (drop i cs) r ≡ puts (get_or cs i z ∷ []) r ++ puts (drop (i + 1) cs) r
puts_from [] r i z h = absurd (omega (arith, h))
puts_from (c ∷ cs) r zero z h = put_first (c.relation == r) c.key c.fields (puts cs r)
puts_from (c ∷ cs) r (suc i) z h =
    let one : suc (i + 1) ≡ suc i + 1 = omega arith in
    puts_from cs r i z (omega (arith, h)) ∙ ap (λ k. puts (get_or cs i z ∷ []) r ++ puts (drop k (c ∷ cs)) r) one

-- what a change puts stands in front of what the later ones put
pub puts_drop : (cs : List Change) (r i : ℕ) → i < length cs → puts (drop i cs) r ≡ puts (change_here cs i ∷ []) r ++ puts (drop (i + 1) cs) r
puts_drop cs r i h = puts_from cs r i no_change h

-- past the last change
pub puts_past : (cs : List Change) (r i : ℕ) → length cs ≤ i → puts (drop i cs) r ≡ []
puts_past [] r zero h = refl
puts_past [] r (suc i) h = refl
puts_past (c ∷ cs) r zero h = absurd (omega (arith, h))
puts_past (c ∷ cs) r (suc i) h = puts_past cs r i (omega (arith, h))

-- a change of the relation whose record was read puts that record alone
pub put_is : (c : Change) (r : ℕ) (row : Record) → c.relation ≡ r → is_some c.fields ≡ true → row.key ≡ c.key → IfSome c.fields (λ f. row.fields ≡ f) → puts (c ∷ []) r ≡ row ∷ []
put_is c r row own some key fields =
    ap (λ (b : Bool). put_before b c.key c.fields []) (eq-eqb c.relation r own)
    ∙ ap (λ (f : Option (List Value)). put_before true c.key f []) (read_is c.fields row.fields some fields)
    ∙ ap (λ (k : ℕ). record { key = k; fields = row.fields } ∷ []) (sym key)

-- the first of wide records, and the others
pub wide_front : (ws : List ℕ) (xs ys : List Record) → AreWide ws (xs ++ ys) → AreWide ws xs
wide_front ws xs ys wide i h =
    let n = length-append xs ys in
    ap (λ (r : Record). meets ws r.fields) (sym (get_or_append_left xs ys (record { key = 0; fields = [] }) i h)) ∙ wide i (omega (arith, h, n))

pub wide_rest : (ws : List ℕ) (xs ys : List Record) → AreWide ws (xs ++ ys) → AreWide ws ys
wide_rest ws xs ys wide i h =
    let n = length-append xs ys in
    ap (λ (r : Record). meets ws r.fields) (sym (get_or-append-add xs ys i (record { key = 0; fields = [] }))) ∙ wide (length xs + i) (omega (arith, h, n))
