-- What a branch has after a commit, relation by relation.
use Rattle.std.proofs.Common.{◌≡◌, ◌⊎◌, inl, inr, ℕ, ◌+◌, ◌<◌, ◌≤◌, ◌==◌, ◌&&◌, ◌||◌, not, nat_lt, Bool, true, false, cond, List, [], ◌∷◌, ◌++◌, length, get_or, None, refl, arith, ap, sym, ◌∙◌, subst}
use Rattle.std.proofs.lemmas.List.{append-nil, get_or_past, get_or_append_left, get_or_push}
use Rattle.std.proofs.lemmas.Bool.{cases_lt, lt-ltb, le-ltb}
use Rattle.db_value.specs.declared.record.Record.{Record}
use Rattle.db_value.specs.declared.entry.Change.{Change}
use Rattle.plain_bits.specs.Truth.{bit_of}
use Rattle.db_store.specs.Adopt.{is_changed}
use Rattle.db_store.specs.LayoutGrowth.{put_before, puts}
use Rattle.hybrid_view.specs.Live.{Piece, Lived, no_lived, piece_at, place_of, lived_at, IsLived}
use Rattle.hybrid_view.specs.Struck.{struck, touched_places}
use Rattle.hybrid_view.specs.RowPlaces.{Next, AllNext}
use Rattle.record_page.specs.Page.{Rows}
use Rattle.hybrid_store.specs.Ready.{AreOwn, no_own}
use Rattle.commit_history.specs.Runs.{Next as NextDelta}
use Rattle.bit_rows.specs.Kept.{KeptLane, kept_rows, nexts_at}
use Rattle.bit_rows.specs.Differences.{AreDifferences}
use Rattle.hybrid_store.specs.Stored.{IsOwnOf, AllDifferences, IsNextAt, AllNextIn, AreSmall}

either_false : (a b : Bool) → (a || b) ≡ false → (a ≡ false) × (b ≡ false)
either_false true b e = absurd cc
either_false false b e = (refl, e)

puts_first : (a : Bool) (c : Change) (rest : List Record) → a ≡ false → put_before a c.key c.fields rest ≡ rest
puts_first true c rest e = absurd cc
puts_first false c rest e = refl

pub puts_none : (cs : List Change) (r : ℕ) → is_changed r cs ≡ false → puts cs r ≡ []
puts_none [] r e = refl
puts_none (c ∷ cs) r e = let two = either_false (c.relation == r) (is_changed r cs) e in puts_first (c.relation == r) c (puts cs r) two.0 ∙ puts_none cs r two.1

struck_none : (ps : List Piece) (cs : List Change) (r segment slot : ℕ) → is_changed r cs ≡ false → struck (touched_places ps cs r) segment slot ≡ false
struck_none ps [] r segment slot e = refl
struck_none ps (c ∷ cs) r segment slot e =
    let two = either_false (c.relation == r) (is_changed r cs) e in
    ap (λ b. struck (cond b (place_of ps c.key) None ∷ touched_places ps cs r) segment slot) two.0 ∙ struck_none ps cs r segment slot two.1

and_true : (b : Bool) → (b && true) ≡ b
and_true true = refl
and_true false = refl

abbrev no_rows : List Record
no_rows = []

nothing : (b : Bool) → cond b [] [] ≡ no_rows
nothing true = refl
nothing false = refl

-- a relation without changes
pub next_same : (ps : List Piece) (cs : List Change) (r head : ℕ) → is_changed r cs ≡ false → ((i : ℕ) → i < length ps → length (piece_at ps i).bits ≤ length (piece_at ps i).rows.records) → AllNext (touched_places ps cs r) head (puts cs r) ps ps
next_same ps cs r head e covered = record { count = refl; each = one }
  where
    one : (i : ℕ) → i < length ps → Next (touched_places ps cs r) head (puts cs r) (piece_at ps i) (piece_at ps i)
    one i h = record {
      segment = refl;
      widths = refl;
      records = sym (ap (λ (xs : List Record). (piece_at ps i).rows.records ++ cond ((piece_at ps i).segment == head) xs []) (puts_none cs r e) ∙ ap (λ (xs : List Record). (piece_at ps i).rows.records ++ xs) (nothing ((piece_at ps i).segment == head)) ∙ append-nil (piece_at ps i).rows.records);
      bits = λ slot. by slot (cases_lt slot (length (piece_at ps i).rows.records));
      covered = covered i h;
      longer = omega arith;
    }
      where
        by : (slot : ℕ) → (slot < length (piece_at ps i).rows.records) ⊎ (length (piece_at ps i).rows.records ≤ slot)
            → bit_of (piece_at ps i).bits slot ≡ cond (nat_lt slot (length (piece_at ps i).rows.records)) (bit_of (piece_at ps i).bits slot && not (struck (touched_places ps cs r) (piece_at ps i).segment slot)) (nat_lt slot (length (piece_at ps i).rows.records))
        by slot (inl l) =
            sym (ap (λ x. cond x (bit_of (piece_at ps i).bits slot && not (struck (touched_places ps cs r) (piece_at ps i).segment slot)) (nat_lt slot (length (piece_at ps i).rows.records))) (lt-ltb slot (length (piece_at ps i).rows.records) l)
            ∙ ap (λ x. bit_of (piece_at ps i).bits slot && not x) (struck_none ps cs r (piece_at ps i).segment slot e)
            ∙ and_true (bit_of (piece_at ps i).bits slot))
        by slot (inr g) =
            get_or_past (piece_at ps i).bits slot false (let c = covered i h in omega (arith, c, g))
            ∙ sym (ap (λ x. cond x (bit_of (piece_at ps i).bits slot && not (struck (touched_places ps cs r) (piece_at ps i).segment slot)) x) (le-ltb slot (length (piece_at ps i).rows.records) g))

-- ---- one relation more

module _ (heads : ℕ → ℕ) (k : KeptLane) (cs : List Change) (ls : List Lived) (l : Lived) (r : ℕ) (n : length ls ≡ r) where
  at_old : (q : ℕ) → q < r → lived_at (ls ++ l ∷ []) q ≡ lived_at ls q
  at_old q h = get_or_append_left ls (l ∷ []) no_lived q (omega (arith, h, n))

  at_new : lived_at (ls ++ l ∷ []) r ≡ l
  at_new = get_or_push ls l no_lived r n

  more : (P : ℕ → Lived → Type 0) → ((q : ℕ) → q < r → P q (lived_at ls q)) → P r l → (q : ℕ) → q < r + 1 → P q (lived_at (ls ++ l ∷ []) q)
  more P f x q h = by (cases_lt q r)
    where
      by : (q < r) ⊎ (r ≤ q) → P q (lived_at (ls ++ l ∷ []) q)
      by (inl k) = subst (P q) (sym (at_old q k)) (f q k)
      by (inr k) = let same : r ≡ q = omega (arith, h, k) in subst (λ y. P y (lived_at (ls ++ l ∷ []) y)) same (subst (P r) (sym at_new) x)

  pub next_more : AllNextIn heads k cs r ls → IsNextAt heads k cs r l → AllNextIn heads k cs (r + 1) (ls ++ l ∷ [])
  next_more f x = more (λ q y. IsNextAt heads k cs q y) f x

  pub lived_more : ((q : ℕ) → q < r → IsLived (lived_at ls q)) → IsLived l → (q : ℕ) → q < r + 1 → IsLived (lived_at (ls ++ l ∷ []) q)
  lived_more f x = more (λ q y. IsLived y) f x

  pub small_more : ((q : ℕ) → q < r → AreSmall (lived_at ls q)) → AreSmall l → (q : ℕ) → q < r + 1 → AreSmall (lived_at (ls ++ l ∷ []) q)
  small_more f x = more (λ q y. AreSmall y) f x

pub own_more : (heads : ℕ → ℕ) (ls : List Lived) (xs : List Rows) (x : Rows) (r : ℕ) → length xs ≡ r → AreOwn heads ls r xs → IsOwnOf (heads r) (lived_at ls r).pieces x → AreOwn heads ls (r + 1) (xs ++ x ∷ [])
own_more heads ls xs x r n f e q h = by (cases_lt q r)
  where
    by : (q < r) ⊎ (r ≤ q) → IsOwnOf (heads q) (lived_at ls q).pieces (get_or (xs ++ x ∷ []) q no_own)
    by (inl k) = subst (IsOwnOf (heads q) (lived_at ls q).pieces) (sym (get_or_append_left xs (x ∷ []) no_own q (omega (arith, k, n)))) (f q k)
    by (inr k) = let same : r ≡ q = omega (arith, h, k) in subst (λ y. IsOwnOf (heads y) (lived_at ls y).pieces (get_or (xs ++ x ∷ []) y no_own)) same (subst (IsOwnOf (heads r) (lived_at ls r).pieces) (sym (get_or_push xs x no_own r n)) e)

-- what is ready, for one relation more
pub ready_more : (k : KeptLane) (ls : List Lived) (l : Lived) (ns : List (List NextDelta)) (x : List NextDelta) (r : ℕ) → length ls ≡ r → length ns ≡ r → AllDifferences k ns r ls
    → AreDifferences (kept_rows k r) x (lived_at k.head r).pieces l.pieces → AllDifferences k (ns ++ x ∷ []) (r + 1) (ls ++ l ∷ [])
ready_more k ls l ns x r m n f e q h = by (cases_lt q r)
  where
    by : (q < r) ⊎ (r ≤ q) → AreDifferences (kept_rows k q) (nexts_at (ns ++ x ∷ []) q) (lived_at k.head q).pieces (lived_at (ls ++ l ∷ []) q).pieces
    by (inl g) =
        subst (λ (y : List NextDelta). AreDifferences (kept_rows k q) y (lived_at k.head q).pieces (lived_at (ls ++ l ∷ []) q).pieces) (sym (get_or_append_left ns (x ∷ []) [] q (omega (arith, g, n))))
        (subst (λ (y : Lived). AreDifferences (kept_rows k q) (nexts_at ns q) (lived_at k.head q).pieces y.pieces) (sym (get_or_append_left ls (l ∷ []) no_lived q (omega (arith, g, m)))) (f q g))
    by (inr g) =
        let same : r ≡ q = omega (arith, h, g) in
        subst (λ t. AreDifferences (kept_rows k t) (nexts_at (ns ++ x ∷ []) t) (lived_at k.head t).pieces (lived_at (ls ++ l ∷ []) t).pieces) same
        (subst (λ (y : List NextDelta). AreDifferences (kept_rows k r) y (lived_at k.head r).pieces (lived_at (ls ++ l ∷ []) r).pieces) (sym (get_or_push ns x [] r n))
        (subst (λ (y : Lived). AreDifferences (kept_rows k r) x (lived_at k.head r).pieces y.pieces) (sym (get_or_push ls l no_lived r m)) e))
