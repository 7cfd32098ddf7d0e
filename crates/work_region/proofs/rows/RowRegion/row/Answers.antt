use Rattle.std.proofs.Common.{◌≡◌, ◌<◌, ◌∙◌, ap, ap₂, sym, subst, List, ℕ, length}
use Rattle.db_value.specs.Spelling.{IsSpelling, fields_in}
use Rattle.work_region.specs.declared.rows.Head.{Head}
use Rattle.std.proofs.lemmas.List.{length-map}
use Rattle.work_region.specs.Rows.{RowFrames, head_bytes, head_frame}
use Rattle.work_region.proofs.RowLemmas.{frame_at}
use Rattle.work_region.proofs.rows.RowRegion.row.Goals as goal

pub unpack-requires-clause-is : goal.unpack-requires-clause-is
unpack-requires-clause-is c =
    let d : Head = c.index-head.result.now in
    let many : length c.self.inside.heads.items ≡ length c.args.self.now.frames = sym (length-map c.self.inside.heads.items (head_frame c.self.inside.bytes.items)) ∙ ap (λ (r : RowFrames). length r.frames) c.self.view_is in
    let within : c.args.frame < length c.self.inside.heads.items = subst (λ (n : ℕ). c.args.frame < n) (sym many) c.requires in
    let f = frame_at c.self.inside.most c.self.inside.bytes.items 0 c.args.frame c.self.inside.heads.items d c.self.invariant.0 within in
    let same = c.bytes_of.ensures ∙ ap₂ (λ (xs : List ℕ) (h : Head). head_bytes xs h) c.deref.ensures.value c.index-head.ensures in
    subst IsSpelling (sym same) f.spelled

pub unpack-requires-clause-some : goal.unpack-requires-clause-some
unpack-requires-clause-some c =
    let d : Head = c.index-head.result.now in
    let many : length c.self.inside.heads.items ≡ length c.args.self.now.frames = sym (length-map c.self.inside.heads.items (head_frame c.self.inside.bytes.items)) ∙ ap (λ (r : RowFrames). length r.frames) c.self.view_is in
    let within : c.args.frame < length c.self.inside.heads.items = subst (λ (n : ℕ). c.args.frame < n) (sym many) c.requires in
    let f = frame_at c.self.inside.most c.self.inside.bytes.items 0 c.args.frame c.self.inside.heads.items d c.self.invariant.0 within in
    let same = c.bytes_of.ensures ∙ ap₂ (λ (xs : List ℕ) (h : Head). head_bytes xs h) c.deref.ensures.value c.index-head.ensures in
    subst (λ (xs : List ℕ). 0 < length (fields_in xs)) (sym same) f.some
