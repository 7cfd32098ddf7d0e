-- The image of a new dataset is read as its parts.
use Rattle.std.proofs.Common.{◌≡◌, ℕ, zero, suc, ◌+◌, ◌-◌, ◌*◌, ◌/◌, ◌<◌, ◌==◌, ◌&&◌, ◌||◌, nat_lt, nat_le, cond, codes, Bool, true, List, [], ◌∷◌, ◌++◌, length, map, drop, Ok, Err, refl, sym, ◌∙◌, ap, arith, append_assoc}
use Rattle.std.proofs.lemmas.List.{append-nil}
use Rattle.std.specs.List.{list_all}
use Rattle.std.specs.Int.{w32}
use Rattle.db_value.specs.Text.{is_name}
use Rattle.db_value.specs.Relations.{widths_at}
use Rattle.db_value.specs.declared.schema.Column.{Column}
use Rattle.db_value.specs.declared.schema.Relation.{Relation}
use Rattle.db_value.specs.declared.version.VersionPlace.{VersionPlace}
use Rattle.image_text.specs.declared.image.Format.TheVariants.{Two}
use Rattle.image_text.specs.declared.image.BranchPart.{BranchPart}
use Rattle.image_text.specs.declared.image.RowPart.{RowPart}
use Rattle.image_text.specs.declared.image.SegmentPart.{SegmentPart}
use Rattle.image_text.specs.declared.image.Image.{Image}
use Rattle.image_text.specs.Reading.{◌>>=◌, test, repeat, number_at, name_at, relations_at, root, has_turn, is_earlier, is_position, base_of, next_branch, branches_at, next_version, versions_at, pages_for, next_page, next_word, spans, are_words, next_delta, rises, are_blank, last_of, next_row, has_room, next_segment, next_segments, parts_at}
use Rattle.record_page.specs.Page.{capacity}
use Rattle.record_page.proofs.Pages.{capacity_some}
use Rattle.image_parts.specs.Whole.{is_whole, heads_once, keys_once, is_keyed, counts_from, image_at}
use Rattle.new_image.specs.Image.{name_bytes, branches_bytes, segment_bytes, segments_bytes, image_of}
use Rattle.new_image.specs.Schemas.{IsSchema}
use Rattle.db_value.proofs.SchemaLemmas.{columns_widths}
use Rattle.generations.proofs.NewRelations.{step, then_test, zero_there, one_there, name_there, AreGood, IsGoodSchema, good_schema, relations_read}

-- ---- the parts

abbrev pub master_part : BranchPart
master_part = record { name = codes "master"; origin = root }

abbrev pub new_row : RowPart
new_row = record { branch = 0; from = 0; deltas = record { first = 0; words = [] } ∷ [] }

abbrev pub new_segment : SegmentPart
new_segment = record { head = 1; records = []; rows = new_row ∷ [] }

abbrev pub new_segments : List Relation → List (List SegmentPart)
new_segments [] = []
new_segments (r ∷ rs) = (new_segment ∷ []) ∷ new_segments rs

abbrev pub new_parts : List Relation → Image
new_parts rs = record { relations = rs; branches = master_part ∷ []; versions = []; segments = new_segments rs }

-- ---- branches and versions

is_master : is_name (codes "master") ≡ true
unfolding is_name
is_master = refl

one_branch : (rest : List ℕ) → next_branch ([], []) (name_bytes (codes "master") ++ (0 ∷ 0 ∷ 0 ∷ 0 ∷ 0 ∷ 0 ∷ 0 ∷ 0 ∷ rest)) ≡ Ok ((master_part ∷ [], root ∷ []), rest)
unfolding next_branch
one_branch rest =
    let b2 = 0 ∷ 0 ∷ 0 ∷ 0 ∷ rest in
    let b1 = 0 ∷ 0 ∷ 0 ∷ 0 ∷ b2 in
    let b = name_bytes (codes "master") ++ b1 in
    let none : List BranchPart = [] in
    let bases : List VersionPlace = [] in
    step (name_at b) (codes "master", b1) (λ name. test (has_turn none name.0) b >>= λ u. number_at w32 name.1 >>= λ o. test (is_earlier none o.0) name.1 >>= λ v. number_at w32 o.1 >>= λ p. test (is_position none p.0) o.1 >>= λ w. Ok ((none ++ record { name = name.0; origin = record { branch = o.0; position = p.0 } } ∷ [], bases ++ base_of bases (record { branch = o.0; position = p.0 }) ∷ []), p.1)) (name_there (codes "master") b1 is_master)
    ∙ step (number_at w32 b1) (0, b2) (λ o. test (is_earlier none o.0) b1 >>= λ v. number_at w32 o.1 >>= λ p. test (is_position none p.0) o.1 >>= λ w. Ok ((none ++ record { name = codes "master"; origin = record { branch = o.0; position = p.0 } } ∷ [], bases ++ base_of bases (record { branch = o.0; position = p.0 }) ∷ []), p.1)) (zero_there b2)
    ∙ step (number_at w32 b2) (0, rest) (λ p. test (is_position none p.0) b2 >>= λ w. Ok ((none ++ record { name = codes "master"; origin = record { branch = 0; position = p.0 } } ∷ [], bases ++ base_of bases (record { branch = 0; position = p.0 }) ∷ []), p.1)) (zero_there rest)

branches_read : (rest : List ℕ) → branches_at (branches_bytes ++ rest) ≡ Ok ((master_part ∷ [], root ∷ []), 0 ∷ 0 ∷ 0 ∷ 0 ∷ rest)
unfolding branches_at repeat
branches_read rest =
    let left = 0 ∷ 0 ∷ 0 ∷ 0 ∷ rest in
    let b = name_bytes (codes "master") ++ (0 ∷ 0 ∷ 0 ∷ 0 ∷ 0 ∷ 0 ∷ 0 ∷ 0 ∷ left) in
    step (number_at w32 (branches_bytes ++ rest)) (1, b) (λ n. test (nat_lt 0 n.0 && nat_le n.0 1024) (branches_bytes ++ rest) >>= λ u. repeat next_branch n.0 ([], []) n.1) (one_there b)
    ∙ step (next_branch ([], []) b) ((master_part ∷ [], root ∷ []), left) (λ (x : (List BranchPart × List VersionPlace) × List ℕ). repeat next_branch 0 x.0 x.1) (one_branch left)

versions_read : (rest : List ℕ) → versions_at (root ∷ []) (0 ∷ 0 ∷ 0 ∷ 0 ∷ rest) ≡ Ok ((0 ∷ [], []), rest)
unfolding versions_at repeat
versions_read rest = step (number_at w32 (0 ∷ 0 ∷ 0 ∷ 0 ∷ rest)) (0, rest) (λ n. repeat (next_version (root ∷ [])) n.0 (0 ∷ [], []) n.1) (zero_there rest)

-- ---- segments

abbrev lasts : List ℕ
lasts = 0 ∷ []

one_le : nat_le 1 (length lasts) ≡ true
one_le = let len : length lasts ≡ 1 = refl in ap (λ (n : ℕ). nat_le 1 n) len

one_lt : nat_lt 1 (2 * length lasts) ≡ true
one_lt = let len : length lasts ≡ 1 = refl in ap (λ (n : ℕ). nat_lt 1 (2 * n)) len

delta_read : (rest : List ℕ) → next_delta 0 [] (0 ∷ 0 ∷ 0 ∷ 0 ∷ 0 ∷ 0 ∷ 0 ∷ 0 ∷ rest) ≡ Ok (record { first = 0; words = [] } ∷ [], rest)
unfolding next_delta repeat are_words
delta_read rest =
    let b1 = 0 ∷ 0 ∷ 0 ∷ 0 ∷ rest in
    let b = 0 ∷ 0 ∷ 0 ∷ 0 ∷ b1 in
    step (number_at w32 b) (0, b1) (λ f. number_at w32 f.1 >>= λ n. test (spans 0 f.0 n.0) b >>= λ w. repeat next_word n.0 [] n.1 >>= λ ws. test (are_words 0 f.0 ws.0) b >>= λ u. Ok ([] ++ record { first = f.0; words = ws.0 } ∷ [], ws.1)) (zero_there b1)
    ∙ step (number_at w32 b1) (0, rest) (λ n. test (spans 0 0 n.0) b >>= λ w. repeat next_word n.0 [] n.1 >>= λ ws. test (are_words 0 0 ws.0) b >>= λ u. Ok ([] ++ record { first = 0; words = ws.0 } ∷ [], ws.1)) (zero_there rest)

row_read : (rest : List ℕ) → next_row lasts 0 [] (0 ∷ 0 ∷ 0 ∷ 0 ∷ 0 ∷ 0 ∷ 0 ∷ 0 ∷ 0 ∷ 0 ∷ 0 ∷ 0 ∷ 0 ∷ 0 ∷ 0 ∷ 0 ∷ rest) ≡ Ok (new_row ∷ [], rest)
unfolding next_row repeat
row_read rest =
    let b2 = 0 ∷ 0 ∷ 0 ∷ 0 ∷ 0 ∷ 0 ∷ 0 ∷ 0 ∷ rest in
    let b1 = 0 ∷ 0 ∷ 0 ∷ 0 ∷ b2 in
    let b = 0 ∷ 0 ∷ 0 ∷ 0 ∷ b1 in
    let none : List RowPart = [] in
    step (number_at w32 b) (0, b1) (λ n. test (nat_lt n.0 (length lasts) && rises none n.0) b >>= λ u. number_at w32 n.1 >>= λ f. test (nat_le f.0 (last_of lasts n.0)) n.1 >>= λ v. next_delta 0 [] f.1 >>= λ d. test (f.0 == 0 || are_blank d.0) b >>= λ w. repeat (next_delta 0) (last_of lasts n.0 - f.0) d.0 d.1 >>= λ ds. Ok (none ++ record { branch = n.0; from = f.0; deltas = ds.0 } ∷ [], ds.1)) (zero_there b1)
    ∙ step (number_at w32 b1) (0, b2) (λ f. test (nat_le f.0 (last_of lasts 0)) b1 >>= λ v. next_delta 0 [] f.1 >>= λ d. test (f.0 == 0 || are_blank d.0) b >>= λ w. repeat (next_delta 0) (last_of lasts 0 - f.0) d.0 d.1 >>= λ ds. Ok (none ++ record { branch = 0; from = f.0; deltas = ds.0 } ∷ [], ds.1)) (zero_there b2)
    ∙ step (next_delta 0 [] b2) (record { first = 0; words = [] } ∷ [], rest) (λ d. test (0 == 0 || are_blank d.0) b >>= λ w. repeat (next_delta 0) 0 d.0 d.1 >>= λ ds. Ok (none ++ record { branch = 0; from = 0; deltas = ds.0 } ∷ [], ds.1)) (delta_read rest)

one_row : (rest : List ℕ) → repeat (next_row lasts 0) 1 [] (0 ∷ 0 ∷ 0 ∷ 0 ∷ 0 ∷ 0 ∷ 0 ∷ 0 ∷ 0 ∷ 0 ∷ 0 ∷ 0 ∷ 0 ∷ 0 ∷ 0 ∷ 0 ∷ rest) ≡ Ok (new_row ∷ [], rest)
unfolding repeat
one_row rest = step (next_row lasts 0 [] (0 ∷ 0 ∷ 0 ∷ 0 ∷ 0 ∷ 0 ∷ 0 ∷ 0 ∷ 0 ∷ 0 ∷ 0 ∷ 0 ∷ 0 ∷ 0 ∷ 0 ∷ 0 ∷ rest)) (new_row ∷ [], rest) (λ (x : List RowPart × List ℕ). repeat (next_row lasts 0) 0 x.0 x.1) (row_read rest)

none_paged : (ws : List ℕ) → 0 < capacity ws → pages_for ws 0 ≡ 0
none_paged ws room = by (capacity ws) room
  where
    by : (c : ℕ) → 0 < c → (0 + (c - 1)) / c ≡ 0
    by c some = search (arith, some)

segment_read : (widths : List ℕ) (rest : List ℕ) → 0 < capacity widths → next_segment widths lasts [] (drop 4 segment_bytes ++ rest) ≡ Ok (new_segment ∷ [], rest)
unfolding next_segment repeat
segment_read widths rest room =
    let b3 = 0 ∷ 0 ∷ 0 ∷ 0 ∷ 0 ∷ 0 ∷ 0 ∷ 0 ∷ 0 ∷ 0 ∷ 0 ∷ 0 ∷ 0 ∷ 0 ∷ 0 ∷ 0 ∷ rest in
    let b2 = 1 ∷ 0 ∷ 0 ∷ 0 ∷ b3 in
    let b1 = 0 ∷ 0 ∷ 0 ∷ 0 ∷ b2 in
    let b = 1 ∷ 0 ∷ 0 ∷ 0 ∷ b1 in
    let none : List SegmentPart = [] in
    step (number_at w32 b) (1, b1) (λ h. test (nat_le h.0 (length lasts)) b >>= λ head. number_at w32 h.1 >>= λ n. test (has_room lasts h.0 n.0) h.1 >>= λ few. repeat (next_page widths) (pages_for widths n.0) (n.0, []) n.1 >>= λ p. number_at w32 p.1 >>= λ k. test (nat_le k.0 (length lasts)) p.1 >>= λ u. repeat (next_row lasts n.0) k.0 [] k.1 >>= λ rows. Ok (none ++ record { head = h.0; records = p.0.1; rows = rows.0 } ∷ [], rows.1)) (one_there b1)
    ∙ then_test (nat_le 1 (length lasts)) b (λ head. number_at w32 b1 >>= λ n. test (has_room lasts 1 n.0) b1 >>= λ few. repeat (next_page widths) (pages_for widths n.0) (n.0, []) n.1 >>= λ p. number_at w32 p.1 >>= λ k. test (nat_le k.0 (length lasts)) p.1 >>= λ u. repeat (next_row lasts n.0) k.0 [] k.1 >>= λ rows. Ok (none ++ record { head = 1; records = p.0.1; rows = rows.0 } ∷ [], rows.1)) one_le
    ∙ step (number_at w32 b1) (0, b2) (λ n. test (has_room lasts 1 n.0) b1 >>= λ few. repeat (next_page widths) (pages_for widths n.0) (n.0, []) n.1 >>= λ p. number_at w32 p.1 >>= λ k. test (nat_le k.0 (length lasts)) p.1 >>= λ u. repeat (next_row lasts n.0) k.0 [] k.1 >>= λ rows. Ok (none ++ record { head = 1; records = p.0.1; rows = rows.0 } ∷ [], rows.1)) (zero_there b2)
    ∙ ap (λ (m : ℕ). repeat (next_page widths) m (0, []) b2 >>= λ p. number_at w32 p.1 >>= λ k. test (nat_le k.0 (length lasts)) p.1 >>= λ u. repeat (next_row lasts 0) k.0 [] k.1 >>= λ rows. Ok (none ++ record { head = 1; records = p.0.1; rows = rows.0 } ∷ [], rows.1)) (none_paged widths room)
    ∙ step (number_at w32 b2) (1, b3) (λ k. test (nat_le k.0 (length lasts)) b2 >>= λ u. repeat (next_row lasts 0) k.0 [] k.1 >>= λ rows. Ok (none ++ record { head = 1; records = []; rows = rows.0 } ∷ [], rows.1)) (one_there b3)
    ∙ then_test (nat_le 1 (length lasts)) b2 (λ u. repeat (next_row lasts 0) 1 [] b3 >>= λ rows. Ok (none ++ record { head = 1; records = []; rows = rows.0 } ∷ [], rows.1)) one_le
    ∙ step (repeat (next_row lasts 0) 1 [] b3) (new_row ∷ [], rest) (λ rows. Ok (none ++ record { head = 1; records = []; rows = rows.0 } ∷ [], rows.1)) (one_row rest)

one_segment : (widths : List ℕ) (rest : List ℕ) → 0 < capacity widths → repeat (next_segment widths lasts) 1 [] (drop 4 segment_bytes ++ rest) ≡ Ok (new_segment ∷ [], rest)
unfolding repeat
one_segment widths rest room = step (next_segment widths lasts [] (drop 4 segment_bytes ++ rest)) (new_segment ∷ [], rest) (λ (x : List SegmentPart × List ℕ). repeat (next_segment widths lasts) 0 x.0 x.1) (segment_read widths rest room)

relation_segments : (rs : List Relation) (seen : List (List SegmentPart)) (rest : List ℕ) → 0 < capacity (widths_at rs (length seen)) → next_segments rs lasts seen (segment_bytes ++ rest) ≡ Ok (seen ++ (new_segment ∷ []) ∷ [], rest)
unfolding next_segments repeat
relation_segments rs seen rest room =
    let widths = widths_at rs (length seen) in
    let b1 = drop 4 segment_bytes ++ rest in
    let b = segment_bytes ++ rest in
    step (number_at w32 b) (1, b1) (λ n. test (nat_lt n.0 (2 * length lasts)) b >>= λ few. repeat (next_segment widths lasts) n.0 [] n.1 >>= λ ss. Ok (seen ++ ss.0 ∷ [], ss.1)) (one_there b1)
    ∙ then_test (nat_lt 1 (2 * length lasts)) b (λ few. repeat (next_segment widths lasts) 1 [] b1 >>= λ ss. Ok (seen ++ ss.0 ∷ [], ss.1)) one_lt
    ∙ step (repeat (next_segment widths lasts) 1 [] b1) (new_segment ∷ [], rest) (λ ss. Ok (seen ++ ss.0 ∷ [], ss.1)) (one_segment widths rest room)

-- a page has room for a record of each relation
rooms : (rs : List Relation) → AreGood rs → (i : ℕ) → 0 < capacity (widths_at rs i)
rooms [] good zero = omega arith
rooms [] good (suc i) = omega arith
rooms (r ∷ rs) good zero = capacity_some (map (λ (c : Column). c.width) r.columns) (columns_widths r good.0)
rooms (r ∷ rs) good (suc i) = rooms rs good.2 i

segments_there : (rs left : List Relation) (seen : List (List SegmentPart)) → ((i : ℕ) → 0 < capacity (widths_at rs i)) → repeat (next_segments rs lasts) (length left) seen (segments_bytes left) ≡ Ok (seen ++ new_segments left, [])
unfolding repeat
segments_there rs [] seen room = ap (λ (l : List (List SegmentPart)). Ok (l, [])) (sym (append-nil seen))
segments_there rs (r ∷ left) seen room =
    let one = (new_segment ∷ []) ∷ [] in
    step (next_segments rs lasts seen (segment_bytes ++ segments_bytes left)) (seen ++ one, segments_bytes left) (λ (x : List (List SegmentPart) × List ℕ). repeat (next_segments rs lasts) (length left) x.0 x.1) (relation_segments rs seen (segments_bytes left) (room (length seen)))
    ∙ segments_there rs left (seen ++ one) room
    ∙ ap (λ (l : List (List SegmentPart)). Ok (l, [])) (append_assoc seen one (new_segments left))

-- ---- the whole

parts_read : (rs : List Relation) → IsGoodSchema rs → parts_at Two (image_of rs) ≡ Ok (new_parts rs, lasts)
unfolding parts_at
parts_read rs is =
    let segs = segments_bytes rs in
    let b1 = branches_bytes ++ segs in
    let b2 = 0 ∷ 0 ∷ 0 ∷ 0 ∷ segs in
    step (relations_at Two (image_of rs)) (rs, b1) (λ relations. branches_at relations.1 >>= λ branches. versions_at branches.0.1 branches.1 >>= λ versions. repeat (next_segments relations.0 versions.0.0) (length relations.0) [] versions.1 >>= λ segments. test (length segments.1 == 0) segments.1 >>= λ ended. Ok (record { relations = relations.0; branches = branches.0.0; versions = versions.0.1; segments = segments.0 }, versions.0.0)) (relations_read rs b1 is)
    ∙ step (branches_at b1) ((master_part ∷ [], root ∷ []), b2) (λ branches. versions_at branches.0.1 branches.1 >>= λ versions. repeat (next_segments rs versions.0.0) (length rs) [] versions.1 >>= λ segments. test (length segments.1 == 0) segments.1 >>= λ ended. Ok (record { relations = rs; branches = branches.0.0; versions = versions.0.1; segments = segments.0 }, versions.0.0)) (branches_read segs)
    ∙ step (versions_at (root ∷ []) b2) ((lasts, []), segs) (λ versions. repeat (next_segments rs versions.0.0) (length rs) [] versions.1 >>= λ segments. test (length segments.1 == 0) segments.1 >>= λ ended. Ok (record { relations = rs; branches = master_part ∷ []; versions = versions.0.1; segments = segments.0 }, versions.0.0)) (versions_read segs)
    ∙ step (repeat (next_segments rs lasts) (length rs) [] segs) (new_segments rs, []) (λ segments. test (length segments.1 == 0) segments.1 >>= λ ended. Ok (record { relations = rs; branches = master_part ∷ []; versions = []; segments = segments.0 }, lasts)) (segments_there rs rs [] (rooms rs is.good))

all_whole : (rs : List Relation) → list_all (λ (ss : List SegmentPart). heads_once (length lasts) ss && keys_once lasts ss) (new_segments rs) ≡ true
unfolding counts_from is_keyed
all_whole [] = refl
all_whole (r ∷ rs) = all_whole rs

whole_is : (rs : List Relation) → is_whole (new_parts rs) lasts ≡ true
unfolding is_whole
whole_is rs = all_whole rs

pub new_read : (rs : List Relation) → IsSchema rs → image_at Two (image_of rs) ≡ Ok (new_parts rs)
unfolding image_at
new_read rs is =
    step (parts_at Two (image_of rs)) (new_parts rs, lasts) (λ parts. cond (is_whole parts.0 parts.1) (Ok parts.0) (Err 0)) (parts_read rs (good_schema rs is))
    ∙ ap (λ (q : Bool). cond q (Ok (new_parts rs)) (Err 0)) (whole_is rs)
