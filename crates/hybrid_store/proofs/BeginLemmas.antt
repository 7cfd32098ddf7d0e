-- What a new branch has of the relations, and its origin with another head: one relation after another.
use Rattle.std.proofs.Common.{◌≡◌, ℕ, ◌+◌, ◌<◌, List, [], ◌∷◌, ◌++◌, length, map, arith, ap, sym, ◌∙◌, subst}
use Rattle.std.proofs.lemmas.List.{length_push}
use Rattle.record_page.specs.Page.{Rows}
use Rattle.hybrid_view.specs.Live.{Lived, no_lived, IsLived, AllLived}
use Rattle.bit_rows.specs.Rows.{KeptRow, begun_row, MoreRow, no_more}
use Rattle.bit_rows.specs.Kept.{KeptLane, kept_rows}
use Rattle.bit_rows.specs.Segments.{KeptList, list_at}
use Rattle.hybrid_store.specs.Begun.{turned_row, begun_in, turned_in, AreBegun, AreTurned}
use Rattle.hybrid_store.proofs.NewLemmas.{each_more}

module _ (segments : List KeptList) (more : ℕ) (owns : List Rows) (view : List Lived) (n : ℕ) (rows : List (List KeptRow)) (t : List Lived) (are : AreBegun segments more owns view n rows t) where
  pub begun_more : (row : List KeptRow) (l : Lived) → l ≡ begun_in segments more owns view n → row ≡ map begun_row l.pieces → AreBegun segments more owns view (n + 1) (rows ++ row ∷ []) (t ++ l ∷ [])
  begun_more row l is of =
      let w = are.wide in
      let c = are.count in
      let pw = length_push t l in
      let pc = length_push rows row in
      record {
        wide = omega (arith, w, pw);
        count = omega (arith, c, pc);
        each = each_more (λ r (x : Lived). x ≡ begun_in segments more owns view r) t l no_lived n w are.each is;
        begun = each_more (λ r (x : List KeptRow). x ≡ map begun_row (begun_in segments more owns view r).pieces) rows row [] n c are.begun (of ∙ ap (λ (x : Lived). map begun_row x.pieces) is);
      }

  pub begun_live : ((r : ℕ) → r < n → IsLived (begun_in segments more owns view r)) → AllLived t
  begun_live f r h = let w = are.wide in let lt : r < n = omega (arith, h, w) in subst IsLived (sym (are.each r lt)) (f r lt)

module _ (segments : List KeptList) (k : KeptLane) (from : ℕ) (owns : List Rows) (n : ℕ) (more : List MoreRow) (t : List Lived) (are : AreTurned segments k from owns n more t) where
  pub turned_more : (x : MoreRow) (l : Lived) → l ≡ turned_in segments owns k.head n → x.row ≡ turned_row (length (list_at segments n)) from → length (kept_rows k n) < x.room → AreTurned segments k from owns (n + 1) (more ++ x ∷ []) (t ++ l ∷ [])
  turned_more x l is row room =
      let w = are.wide in
      let c = are.count in
      let pw = length_push t l in
      let pc = length_push more x in
      record {
        wide = omega (arith, w, pw);
        count = omega (arith, c, pc);
        each = each_more (λ r (y : Lived). y ≡ turned_in segments owns k.head r) t l no_lived n w are.each is;
        row = each_more (λ r (y : MoreRow). y.row ≡ turned_row (length (list_at segments r)) from) more x no_more n c are.row row;
        room = each_more (λ r (y : MoreRow). length (kept_rows k r) < y.room) more x no_more n c are.room room;
      }

  pub turned_live : ((r : ℕ) → r < n → IsLived (turned_in segments owns k.head r)) → AllLived t
  turned_live f r h = let w = are.wide in let lt : r < n = omega (arith, h, w) in subst IsLived (sym (are.each r lt)) (f r lt)
