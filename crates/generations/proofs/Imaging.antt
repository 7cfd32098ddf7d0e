-- An image can be of the layout of the state that a dataset keeps.
use Rattle.std.proofs.Common.{◌≡◌, ◌+◌, ◌^◌, ℕ, nat_le, nat_eq, ◌&&◌, true, List, [], ◌∷◌, ◌++◌, length, Some, Ok, refl, sym, ap, subst, ◌∙◌}
use Rattle.std.specs.Cmp.Lexicographic.{pointwise}
use Rattle.sha2.specs.Sha256.{sha256}
use Rattle.db_value.specs.declared.entry.Entry.{Entry}
use Rattle.db_store.specs.Fits.{fits}
use Rattle.db_store.specs.Sound.{IsSound}
use Rattle.db_store.specs.Layout.{Layout, dataset_in}
use Rattle.db_store.specs.LaidOut.{IsLaid}
use Rattle.db_store.specs.LayoutGrowth.{grow_layout}
use Rattle.db_store.specs.State.{State, laid, dataset_of, grow}
use Rattle.db_store.proofs.LaidLemmas.{laid_stays}
use Rattle.db_store.proofs.LayoutLaw.{layout_law}
use Rattle.db_store.proofs.NewLayout.{layout_grows}
use Rattle.db_store.proofs.SoundLemmas.{sound_stays}
use Rattle.hybrid_store.specs.Parts.{layout_of_parts}
use Rattle.entry_codec.specs.Grammar.{entries_in}
use Rattle.gate_journal.specs.Reading.{End, closed_at, damaged_at, records_from}
use Rattle.image_text.specs.declared.image.Format.{Format}
use Rattle.image_text.specs.declared.image.Image.{Image}
use Rattle.image_parts.specs.Whole.{image_at}
use Rattle.db_image.specs.Parts.{parts_of}
use Rattle.db_image.specs.Imaged.{IsImaged, IsNamed}
use Rattle.db_image.proofs.Laid.{image_sound}
use Rattle.db_image.proofs.ReadImaged.{read_imaged}
use Rattle.db_image.proofs.SegmentsKept.{imaged_stays}
use Rattle.generations.specs.Files.{format_of, generation_of, image_length, image_digest, image_in, by_image, by_state, file_reads, opened, applied, behind, walk, walked}
use Rattle.generations.specs.Fronts.{IsFront}
use Rattle.generations.specs.ImageState.{image_state}
use Rattle.generations.proofs.Back.{same_opened, split_behind, by_entries_some, by_state_some, header_some, image_some}
use Rattle.generations.proofs.Named.{AreNamed, tested, entries_named}

-- the state has a layout that keeps its rules, and of which an image can be
pub record HasImage (s : State) : Type 0 where
  pub layout : Layout
  pub is : s ≡ laid layout
  pub kept : IsLaid layout
  pub sound : IsSound (dataset_in layout)
  pub imaged : IsImaged layout

grown : (s : State) (e : Entry) → fits (dataset_of s) e ≡ true → IsNamed e → HasImage s → HasImage (grow s e)
grown s e fit named has =
    let there : fits (dataset_in has.layout) e ≡ true = subst (λ (t : State). fits (dataset_of t) e ≡ true) has.is fit in
    record {
      layout = grow_layout has.layout e;
      is = ap (λ (t : State). grow t e) has.is ∙ layout_grows has.layout e has.kept there;
      kept = laid_stays has.layout e has.kept there;
      sound = subst IsSound (sym (layout_law has.layout e has.kept there)) (sound_stays (dataset_in has.layout) e has.sound there);
      imaged = imaged_stays has.layout e has.kept has.sound there named has.imaged;
    }

all_grown : (s t : State) (es : List Entry) → AreNamed es → applied s es ≡ Some t → HasImage s → HasImage t
all_grown s t [] named is has = subst HasImage (some_same s t is) has
  where
    some_same : (a b : State) → Some a ≡ Some b → a ≡ b
    some_same a b e = cc
all_grown s t (e ∷ es) named is has =
    let held = tested (fits (dataset_of s) e) (applied (grow s e) es) t is in
    all_grown (grow s e) t es named.1 held.1 (grown s e held.0 named.0 has)

-- whatever bodies made of a state
walk_grown : (s : State) (at : ℕ) (bodies : List (List ℕ)) (end : End) (t : State) (es : List Entry) (p : ℕ) → walk s at bodies end ≡ opened t es p → HasImage s → HasImage t
walk_grown s at [] (closed_at q) t es p is has = subst HasImage (same_opened s t [] es q p is).0 has
walk_grown s at [] (damaged_at q cause) t es p is has = absurd (cc is)
walk_grown s at (body ∷ bodies) end t es p is has =
    let read = by_entries_some at (entries_in body) (λ l. by_state at (applied s l) (λ u. behind l (walk u (at + (37 + length body)) bodies end))) t es p is in
    let state = by_state_some at (applied s read.0) (λ u. behind read.0 (walk u (at + (37 + length body)) bodies end)) t es p read.2 in
    let more = split_behind read.0 (walk state.0 (at + (37 + length body)) bodies end) t es p state.2 in
    walk_grown state.0 (at + (37 + length body)) bodies end t more.0 p more.1 (all_grown s state.0 read.0 (entries_named body read.0 read.1) state.1 has)

-- what bytes are an image of
begun : (format : Format) (b : List ℕ) (i : Image) → image_at format b ≡ Ok i → HasImage (image_state i)
unfolding image_state
begun format b i is =
    let sound = image_sound format b i is in
    record { layout = layout_of_parts (parts_of i); is = refl; kept = sound.laid; sound = sound.sound; imaged = read_imaged format b i is }

-- a front and a closed gate
front_has : (front : List ℕ) (g : ℕ) (s : State) (es : List Entry) → IsFront front g s es → HasImage s
front_has front g s es is =
    let c : List ℕ = front ++ 0 ∷ [] in
    let read : file_reads (front ++ 0 ∷ []) ≡ opened s (es ++ []) (length front) = is.reads_on (0 ∷ []) in
    let parts = header_some (nat_le 1 (generation_of c) && nat_le (generation_of c) (2 ^ 63)) (nat_le (57 + image_length c) (length c)) (pointwise nat_eq (sha256 (image_in c)) (image_digest c))
    (by_image (length (image_in c)) (image_at (format_of c) (image_in c)) (λ i. walked (image_state i) (57 + image_length c) (records_from (57 + image_length c) c))) s (es ++ []) (length front) read in
    let image = image_some (length (image_in c)) (image_at (format_of c) (image_in c)) (λ i. walked (image_state i) (57 + image_length c) (records_from (57 + image_length c) c)) s (es ++ []) (length front) parts.3 in
    let r = records_from (57 + image_length c) c in
    walk_grown (image_state image.0) (57 + image_length c) r.bodies r.ends s (es ++ []) (length front) image.2 (begun (format_of c) (image_in c) image.0 image.1)

layout_same : (l m : Layout) → laid l ≡ laid m → m ≡ l
layout_same l m e = some_same m l (sym (ap (λ (t : State). t.layout) e))
  where
    some_same : (a b : Layout) → Some a ≡ Some b → a ≡ b
    some_same a b h = cc

pub front_imaged : (front : List ℕ) (g : ℕ) (l : Layout) (es : List Entry) → IsFront front g (laid l) es → IsImaged l
front_imaged front g l es is = let has = front_has front g (laid l) es is in subst IsImaged (layout_same l has.layout has.is) has.imaged
