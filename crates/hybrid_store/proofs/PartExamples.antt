-- The layout of a few parts, computed, and parts that keep the rules.
use Rattle.std.proofs.Common.{◌≡◌, ◌<◌, ◌≤◌, ◌==◌, ℕ, zero, suc, Bool, true, false, cond, List, [], ◌∷◌, length, get_or, Some, None, refl, arith, ap, sym, ◌∙◌, subst}
use Rattle.std.specs.Prelude.{pos, codes}
use Rattle.db_value.specs.Relations.{number_column, widths_at, is_counted}
use Rattle.db_value.specs.declared.value.Value.TheVariants.{Number}
use Rattle.db_value.specs.declared.schema.Relation.{Relation}
use Rattle.db_value.specs.declared.record.Record.{Record}
use Rattle.db_value.specs.declared.entry.Entry.TheVariants.{Commit, Branch as NewBranch}
use Rattle.record_page.specs.Page.{Rows}
use Rattle.db_store.specs.Dataset.{new_dataset}
use Rattle.db_store.specs.Sound.{IsSound}
use Rattle.db_store.specs.Counted.{IsCounted}
use Rattle.db_store.specs.Order.{IsOrdered}
use Rattle.db_store.specs.LaidOut.{IsLaid}
use Rattle.db_store.specs.Layout.{Layout, new_layout, dataset_in}
use Rattle.db_store.specs.LayoutGrowth.{grow_layout}
use Rattle.db_store.proofs.NewLayout.{new_laid as laid_anew}
use Rattle.db_store.proofs.SoundLemmas.{new_sound}
use Rattle.db_store.proofs.CountedLemmas.{new_is_counted}
use Rattle.db_store.proofs.OrderMade.{new_ordered}
use Rattle.hybrid_store.specs.declared.parts.SegmentPart.{SegmentPart}
use Rattle.hybrid_store.specs.declared.parts.LayoutParts.{LayoutParts}
use Rattle.hybrid_store.specs.Parts.{no_segment_part, layout_of_parts, AreSound}

items : List Relation
items = record { name = codes "items"; columns = number_column (codes "a") ∷ number_column (codes "b") ∷ [] } ∷ []

abbrev one : Record
one = record { key = 7; fields = Number (pos 1) ∷ Number (pos 2) ∷ [] }

abbrev own : List Record → Rows
own xs = record { widths = 0 ∷ 0 ∷ []; records = xs }

-- master alone
abbrev new_parts : LayoutParts
new_parts = record {
  schema = items;
  branches = record { name = codes "master"; origin = record { branch = 0; position = 0 } } ∷ [];
  versions = [];
  segments = record { relation = 0; head = Some 0; records = own []; rows = record { branch = 0; from = 0; deltas = [] ∷ [] } ∷ [] } ∷ [];
}

new_laid : layout_of_parts new_parts ≡ new_layout items
unfolding items
new_laid = refl

-- a commit on master, and then a branch of it, which gives master another head
abbrev two_parts : LayoutParts
two_parts = record {
  schema = items;
  branches = record { name = codes "master"; origin = record { branch = 0; position = 0 } } ∷ record { name = codes "dev"; origin = record { branch = 0; position = 1 } } ∷ [];
  versions = record { branch = 0; second = None } ∷ [];
  segments = record { relation = 0; head = None; records = own (one ∷ []); rows = record { branch = 0; from = 0; deltas = [] ∷ (true ∷ []) ∷ [] } ∷ record { branch = 1; from = 0; deltas = (true ∷ []) ∷ [] } ∷ [] }
      ∷ record { relation = 0; head = Some 0; records = own []; rows = record { branch = 0; from = 1; deltas = [] ∷ [] } ∷ [] }
      ∷ record { relation = 0; head = Some 1; records = own []; rows = record { branch = 1; from = 0; deltas = [] ∷ [] } ∷ [] }
      ∷ [];
}

abbrev grown : Layout
grown = grow_layout (grow_layout (new_layout items) (Commit 0 None (record { relation = 0; key = 7; fields = Some (Number (pos 1) ∷ Number (pos 2) ∷ []); widths = Some (0 ∷ 0 ∷ []) } ∷ []))) (NewBranch (codes "dev") (record { branch = 0; position = 1 }))

two_laid : layout_of_parts two_parts ≡ grown
unfolding items
two_laid = refl

-- ---- the parts of a new dataset of one relation keep the rules

-- an empty head of master, with its row
abbrev pub head_of_one : List Relation → SegmentPart
head_of_one schema = record { relation = 0; head = Some 0; records = record { widths = widths_at schema 0; records = [] }; rows = record { branch = 0; from = 0; deltas = [] ∷ [] } ∷ [] }

-- master alone, with it
abbrev pub parts_of_one : List Relation → LayoutParts
parts_of_one schema = record {
  schema = schema;
  branches = record { name = codes "master"; origin = record { branch = 0; position = 0 } } ∷ [];
  versions = [];
  segments = head_of_one schema ∷ [];
}

one_laid : (schema : List Relation) → length schema ≡ 1 → layout_of_parts (parts_of_one schema) ≡ new_layout schema
one_laid [] e = absurd (omega (arith, e))
one_laid (x ∷ []) e = refl
one_laid (x ∷ y ∷ ys) e = absurd (omega (arith, e))

pub one_keeps : (schema : List Relation) → is_counted schema ≡ true → length schema ≡ 1 → AreSound (parts_of_one schema)
one_keeps schema counted one = record {
  laid = subst IsLaid (sym same) (laid_anew schema).0;
  sound = subst IsSound (sym data_same) (new_sound schema);
  counted = subst IsCounted (sym data_same) (new_is_counted schema counted);
  ordered = subst IsOrdered (sym data_same) (new_ordered schema);
  few = λ r h. few (0 == r);
  there = there;
  widths = widths;
}
  where
    same : layout_of_parts (parts_of_one schema) ≡ new_layout schema
    same = one_laid schema one

    data_same : dataset_in (layout_of_parts (parts_of_one schema)) ≡ new_dataset schema
    data_same = ap dataset_in same ∙ (laid_anew schema).1

    few : (t : Bool) → length (cond t (head_of_one schema ∷ []) []) < 2
    few true = omega arith
    few false = omega arith

    there : (i : ℕ) → i < 1 → (get_or (parts_of_one schema).segments i no_segment_part).relation < length schema
    there zero h = omega (arith, one)
    there (suc i) h = absurd (omega (arith, h))

    widths : (i : ℕ) → i < 1 → (get_or (parts_of_one schema).segments i no_segment_part).records.widths ≡ widths_at schema (get_or (parts_of_one schema).segments i no_segment_part).relation
    widths zero h = refl
    widths (suc i) h = absurd (omega (arith, h))
