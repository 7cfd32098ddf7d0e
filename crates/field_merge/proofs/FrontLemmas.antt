-- The first record from a place on.
use Rattle.std.proofs.Common.{◌≡◌, ℕ, ◌+◌, ◌<◌, ◌≤◌, Bool, cond, List, [], ◌∷◌, length, drop, get_or, Some, None, ap, sym, ◌∙◌}
use Rattle.std.specs.Prelude.{slice_get}
use Rattle.std.proofs.lemmas.Bool.{eq-eqb, ne_eqb}
use Rattle.std.proofs.lemmas.List.{drop_all, drop_more}
use Rattle.std.proofs.lemmas.Option.{get_or_from_slice_get}
use Rattle.db_value.specs.Packed.{key_at}
use Rattle.db_value.specs.declared.record.Record.{Record}
use Rattle.field_merge.specs.Walk.{first_at, behind, first_key}

abbrev no_record : Record
no_record = record { key = 0; fields = [] }

abbrev here : ℕ → List Record → Record
here at rows = get_or rows at no_record

module _ (at : ℕ) (rows : List Record) where
  -- ---- past the last record

  module _ (end : length rows ≤ at) where
    pub first_past : (key : ℕ) → first_at key (drop at rows) ≡ None
    first_past key = ap (first_at key) (drop_all at rows end)

    pub behind_past : (key : ℕ) → drop at rows ≡ behind key (drop at rows)
    behind_past key = drop_all at rows end ∙ sym (ap (behind key) (drop_all at rows end))

    pub key_past : first_key (drop at rows) ≡ None
    key_past = ap first_key (drop_all at rows end)

  -- ---- at a record

  module _ (there : at < length rows) where
    pub key_here : first_key (drop at rows) ≡ Some (key_at rows at)
    key_here = ap first_key (drop_more rows at no_record there)

    pub first_other : (key : ℕ) → (key_at rows at ≡ key → ⊥) → first_at key (drop at rows) ≡ None
    first_other key other =
        ap (first_at key) (drop_more rows at no_record there)
        ∙ ap (λ (b : Bool). cond b (Some (here at rows)) None) (ne_eqb (key_at rows at) key other)

    pub first_read : (key : ℕ) (row : Record) → key_at rows at ≡ key → slice_get rows at ≡ Some row → first_at key (drop at rows) ≡ Some row
    first_read key row same read =
        ap (first_at key) (drop_more rows at no_record there)
        ∙ ap (λ (b : Bool). cond b (Some (here at rows)) None) (eq-eqb (key_at rows at) key same)
        ∙ ap (λ (r : Record). Some r) (get_or_from_slice_get rows at row no_record read)

    pub behind_other : (key : ℕ) → (key_at rows at ≡ key → ⊥) → drop at rows ≡ behind key (drop at rows)
    behind_other key other =
        drop_more rows at no_record there
        ∙ sym (ap (behind key) (drop_more rows at no_record there) ∙ ap (λ (b : Bool). cond b (drop (at + 1) rows) (here at rows ∷ drop (at + 1) rows)) (ne_eqb (key_at rows at) key other))

    pub behind_this : (key : ℕ) → key_at rows at ≡ key → drop (at + 1) rows ≡ behind key (drop at rows)
    behind_this key same =
        sym (ap (behind key) (drop_more rows at no_record there) ∙ ap (λ (b : Bool). cond b (drop (at + 1) rows) (here at rows ∷ drop (at + 1) rows)) (eq-eqb (key_at rows at) key same))
