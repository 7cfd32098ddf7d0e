-- An entry that fits a dataset is within the rules of spelling.
use Rattle.std.proofs.Common.{◌≡◌, ◌∙◌, ℕ, ◌<◌, ◌≤◌, ◌&&◌, nat_lt, nat_le, not, true, List, [], ◌∷◌, length, refl, ap, arith, Option, Some, None}
use Rattle.std.specs.List.{list_all}
use Rattle.std.proofs.lemmas.Bool.{and_parts, and_from, ltb-true, leb-true, false≢true}
use Rattle.db_value.specs.Text.{is_name, is_name_byte, starts_with_letter, is_reserved}
use Rattle.db_value.specs.Value.{Value}
use Rattle.db_value.specs.Width.{are_widths}
use Rattle.db_value.specs.Widths.{meets}
use Rattle.db_value.specs.Relations.{is_counted, widths_at}
use Rattle.db_value.proofs.Same.{bytes_is}
use Rattle.db_value.proofs.SchemaLemmas.{relation_widths}
use Rattle.db_value.specs.declared.schema.Relation.{Relation}
use Rattle.db_value.specs.declared.version.VersionPlace.{VersionPlace}
use Rattle.db_value.specs.declared.entry.Change.{Change}
use Rattle.db_value.specs.declared.entry.Entry.{Entry}
use Rattle.db_value.specs.declared.entry.Entry.TheVariants.{Commit, Branch}
use Rattle.db_store.specs.Dataset.{Dataset, branch_at, IsMade}
use Rattle.db_store.specs.Sound.{IsSound}
use Rattle.db_store.specs.Counted.{IsCounted}
use Rattle.db_store.specs.Fits.{fits, ascends, change_fits, has_fields, has_widths, changes_fit, second_fits, most_branches, most_versions}
use Rattle.db_store.specs.Growth.{CommitFits, commit_parts, made_from}
use Rattle.db_store.specs.Body.{IsShort, most_entry}
use Rattle.entry_codec.specs.Spelling.{spelling, are_met, is_met, HasFewChanges, HasMetChanges}
use Rattle.entry_codec.specs.Laws.{IsPlace, IsPlaceIfAny, AreValuesIfAny, AreFields, IsChange, AreChanges, AreRanged, HasRanges, IsNamed, IsEntry, FittingLaw}
use Rattle.entry_codec.proofs.Back.{size_is}

-- the widths of a change are those of its relation
fields_are : (ws : List ℕ) (fields : Option (List Value)) (widths : Option (List ℕ)) → are_widths ws ≡ true → has_fields ws fields ≡ true → has_widths ws fields widths ≡ true → AreValuesIfAny fields → AreFields fields widths
fields_are ws None None are has own ranged = tt
fields_are ws None (Some us) are has own ranged = absurd (false≢true own)
fields_are ws (Some fields) None are has own ranged = absurd (false≢true own)
fields_are ws (Some fields) (Some us) are has own ranged =
    let one : us ≡ ws = bytes_is us ws own in
    (ap are_widths one ∙ are, (ap (λ (vs : List ℕ). meets vs fields) one ∙ has, ranged))

changes_are : (schema : List Relation) (cs : List Change) → is_counted schema ≡ true → list_all (change_fits schema) cs ≡ true → AreRanged cs → AreChanges cs
changes_are schema [] counted all ranged = tt
changes_are schema (c ∷ cs) counted all ranged =
    let parts = and_parts _ _ counted in
    let few : length schema ≤ 8 = leb-true _ _ (and_parts _ _ parts.0).1 in
    let here = and_parts (change_fits schema c) (list_all (change_fits schema) cs) all in
    let fit = and_parts (nat_lt c.relation (length schema)) (has_fields (widths_at schema c.relation) c.fields && has_widths (widths_at schema c.relation) c.fields c.widths) here.0 in
    let lt : c.relation < length schema = ltb-true c.relation (length schema) fit.0 in
    let row = and_parts (has_fields (widths_at schema c.relation) c.fields) (has_widths (widths_at schema c.relation) c.fields c.widths) fit.1 in
    (record { relation = omega (arith, few, lt); key = ranged.0.0; fields = fields_are (widths_at schema c.relation) c.fields c.widths (relation_widths schema c.relation counted lt) row.0 row.1 ranged.0.1 }, changes_are schema cs counted here.1 ranged.1)

-- so a change that fits has fields that meet its widths, or neither
fields_met : (ws : List ℕ) (fields : Option (List Value)) (widths : Option (List ℕ)) → has_fields ws fields ≡ true → has_widths ws fields widths ≡ true → are_met fields widths ≡ true
fields_met ws None None has own = refl
fields_met ws None (Some us) has own = absurd (false≢true own)
fields_met ws (Some fields) None has own = absurd (false≢true own)
fields_met ws (Some fields) (Some us) has own = ap (λ (vs : List ℕ). meets vs fields) (bytes_is us ws own) ∙ has

changes_met : (schema : List Relation) (cs : List Change) → list_all (change_fits schema) cs ≡ true → list_all is_met cs ≡ true
changes_met schema [] all = refl
changes_met schema (c ∷ cs) all =
    let here = and_parts (change_fits schema c) (list_all (change_fits schema) cs) all in
    let fit = and_parts (nat_lt c.relation (length schema)) (has_fields (widths_at schema c.relation) c.fields && has_widths (widths_at schema c.relation) c.fields c.widths) here.0 in
    let row = and_parts (has_fields (widths_at schema c.relation) c.fields) (has_widths (widths_at schema c.relation) c.fields c.widths) fit.1 in
    and_from (is_met c) (list_all is_met cs) (fields_met (widths_at schema c.relation) c.fields c.widths row.0 row.1) (changes_met schema cs here.1)

pub met_fit : (d : Dataset) (e : Entry) → fits d e ≡ true → HasMetChanges e
met_fit d (Commit b second changes) fit = changes_met d.schema changes (and_parts (nat_le (length changes) 65536 && ascends changes) (list_all (change_fits d.schema) changes) (commit_parts d b second changes fit).changes).1
met_fit d (Branch name origin) fit = tt

-- and an entry that fits has few changes
pub few_fit : (d : Dataset) (e : Entry) → fits d e ≡ true → HasFewChanges e
few_fit d (Commit b second changes) fit =
    let p = commit_parts d b second changes fit in
    leb-true _ _ (and_parts _ _ (and_parts _ _ p.changes).0).0
few_fit d (Branch name origin) fit = tt

place_is : (d : Dataset) (at : VersionPlace) → IsSound d → IsMade d at → IsPlace at
place_is d at s m = (omega (arith, m.0, s.few_branches), omega (arith, m.1, s.few_versions at.branch m.0))

second_is : (d : Dataset) (second : Option VersionPlace) → IsSound d → second_fits d second ≡ true → IsPlaceIfAny second
second_is d None s fit = tt
second_is d (Some at) s fit = place_is d at s (made_from d at fit)

pub fitting : FittingLaw
fitting d (Commit b second changes) s counted fit ranged named =
    let p = commit_parts d b second changes fit in
    let c = and_parts _ _ p.changes in
    let few = and_parts _ _ c.0 in
    record {
      number = omega (arith, p.there, s.few_branches);
      parent = second_is d second s p.second;
      few = leb-true _ _ few.0;
      each = changes_are d.schema changes counted.relations c.1 ranged;
      some = p.makes;
      ascending = few.1;
    }
fitting d (Branch name origin) s counted fit ranged named = (named, place_is d origin s (made_from d origin (and_parts _ _ fit).1))

name_short : (name : List ℕ) → is_name name ≡ true → length name ≤ 32
unfolding is_name
name_short name e =
    let a = and_parts (nat_le (length name) 32 && starts_with_letter name && list_all is_name_byte name) (not (is_reserved name)) e in
    let b = and_parts (nat_le (length name) 32 && starts_with_letter name) (list_all is_name_byte name) a.0 in
    leb-true (length name) 32 (and_parts (nat_le (length name) 32) (starts_with_letter name) b.0).0

-- so a batch can take the spelling of one
pub short_fit : (d : Dataset) (e : Entry) → fits d e ≡ true → IsNamed e → IsShort e → length (spelling e) ≤ most_entry
short_fit d (Commit b second changes) fit named short =
    let size = size_is (Commit b second changes) (met_fit d (Commit b second changes) fit) in
    omega (arith, size, short)
short_fit d (Branch name origin) fit named short =
    let size = size_is (Branch name origin) tt in
    let few = name_short name named in
    omega (arith, size, few)
