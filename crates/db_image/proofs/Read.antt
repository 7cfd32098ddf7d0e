-- What an image is, as read.
use Rattle.std.proofs.Common.{◌≡◌, ℕ, ◌<◌, ◌≤◌, Bool, true, false, cond, ◌&&◌, List, [], length, Result, Ok, Err, refl, subst, arith}
use Rattle.std.specs.Prelude.{◌==◌}
use Rattle.std.specs.List.{list_all}
use Rattle.db_value.specs.Relations.{is_counted}
use Rattle.db_value.specs.declared.version.VersionPlace.{VersionPlace}
use Rattle.image_text.specs.declared.image.Format.{Format}
use Rattle.image_text.specs.declared.image.SegmentPart.{SegmentPart}
use Rattle.image_text.specs.declared.image.Image.{Image}
use Rattle.image_text.specs.Reading.{◌>>=◌, test, repeat, relations_at, branches_at, versions_at, next_segments, parts_at}
use Rattle.image_text.proofs.Loop.{bind_ok, ok_is}
use Rattle.image_text.proofs.Counted.{adds, both_true, relations_counted}
use Rattle.image_parts.specs.Whole.{are_made, heads_once, keys_once, is_whole, image_at}
use Rattle.db_image.proofs.Steps.{repeat_keeps}
use Rattle.db_image.proofs.SegmentsRead.{AreByRelation, segments_keep, segments_one}
use Rattle.db_image.proofs.BranchesRead.{AreBranches, branches_are}
use Rattle.db_image.proofs.VersionsRead.{AreVersions, versions_are}

-- the parts of an image that are read, with the versions at positions 0 and the last positions of its branches
pub record AreParts (i : Image) (bases : List VersionPlace) (lasts : List ℕ) : Type 0 where
  pub relations : is_counted i.relations ≡ true
  pub branches : AreBranches (i.branches, bases)
  pub some : 0 < length i.branches
  pub few : length i.branches ≤ 1024
  pub versions : AreVersions bases (lasts, i.versions)
  pub count : length i.segments ≡ length i.relations
  pub segments : AreByRelation i.relations lasts i.segments

-- the parts keep the rules over the whole
pub record IsImage (i : Image) (bases : List VersionPlace) (lasts : List ℕ) : Type 0 where
  pub parts : AreParts i bases lasts
  pub made : are_made lasts i.branches ≡ true
  pub heads : list_all (λ (ss : List SegmentPart). heads_once (length lasts) ss && keys_once lasts ss) i.segments ≡ true

abbrev no_parts : List (List SegmentPart)
no_parts = []

pub parts_read : (format : Format) (b : List ℕ) (x : Image × List ℕ) → parts_at format b ≡ Ok x → (bases : List VersionPlace) × AreParts x.0 bases x.1
unfolding parts_at
parts_read format b x e =
    let rs = bind_ok (relations_at format b) (λ rs. branches_at rs.1 >>= λ bs. versions_at bs.0.1 bs.1 >>= λ vs. repeat (next_segments rs.0 vs.0.0) (length rs.0) no_parts vs.1 >>= λ ss. test (length ss.1 == 0) ss.1 >>= λ ended. Ok (record { relations = rs.0; branches = bs.0.0; versions = vs.0.1; segments = ss.0 }, vs.0.0)) x e in
    let bs = bind_ok (branches_at rs.0.1) (λ bs. versions_at bs.0.1 bs.1 >>= λ vs. repeat (next_segments rs.0.0 vs.0.0) (length rs.0.0) no_parts vs.1 >>= λ ss. test (length ss.1 == 0) ss.1 >>= λ ended. Ok (record { relations = rs.0.0; branches = bs.0.0; versions = vs.0.1; segments = ss.0 }, vs.0.0)) x rs.2 in
    let vs = bind_ok (versions_at bs.0.0.1 bs.0.1) (λ vs. repeat (next_segments rs.0.0 vs.0.0) (length rs.0.0) no_parts vs.1 >>= λ ss. test (length ss.1 == 0) ss.1 >>= λ ended. Ok (record { relations = rs.0.0; branches = bs.0.0.0; versions = vs.0.1; segments = ss.0 }, vs.0.0)) x bs.2 in
    let ss = bind_ok (repeat (next_segments rs.0.0 vs.0.0.0) (length rs.0.0) no_parts vs.0.1) (λ ss. test (length ss.1 == 0) ss.1 >>= λ ended. Ok (record { relations = rs.0.0; branches = bs.0.0.0; versions = vs.0.0.1; segments = ss.0 }, vs.0.0.0)) x vs.2 in
    let ended = bind_ok (test (length ss.0.1 == 0) ss.0.1) (λ ended. Ok (record { relations = rs.0.0; branches = bs.0.0.0; versions = vs.0.0.1; segments = ss.0.0 }, vs.0.0.0)) x ss.2 in
    let branches = branches_are rs.0.1 bs.0 bs.1 in
    let versions = versions_are bs.0.0.1 bs.0.1 vs.0 branches.0.proper vs.1 in
    let made : Image × List ℕ = (record { relations = rs.0.0; branches = bs.0.0.0; versions = vs.0.0.1; segments = ss.0.0 }, vs.0.0.0) in
    let count : length ss.0.0 ≡ length rs.0.0 = omega (arith, adds (next_segments rs.0.0 vs.0.0.0) (segments_one rs.0.0 vs.0.0.0) (length rs.0.0) no_parts vs.0.1 ss.0 ss.1) in (
      bs.0.0.1,
      subst (λ (y : Image × List ℕ). AreParts y.0 bs.0.0.1 y.1) (ok_is made x ended.2) (record {
        relations = relations_counted format b rs.0.0 rs.0.1 rs.1;
        branches = branches.0;
        some = branches.1;
        few = branches.2;
        versions = versions;
        count = count;
        segments = repeat_keeps (AreByRelation rs.0.0 vs.0.0.0) (next_segments rs.0.0 vs.0.0.0) (segments_keep rs.0.0 vs.0.0.0) (length rs.0.0) no_parts vs.0.1 ss.0 (λ r l. absurd (omega (arith, l))) ss.1;
      }),
    )

abbrev done : {A : Type 0} → A → Result A ℕ
done x = Ok x

pub whole_ok : (w : Bool) (p i : Image) → cond w (done p) (Err 0) ≡ Ok i → (w ≡ true) × (p ≡ i)
whole_ok true p i e = (refl, ok_is p i e)
whole_ok false p i e = absurd cc

pub image_read : (format : Format) (b : List ℕ) (i : Image) → image_at format b ≡ Ok i → (bases : List VersionPlace) × (lasts : List ℕ) × IsImage i bases lasts
unfolding image_at is_whole
image_read format b i e =
    let p = bind_ok (parts_at format b) (λ parts. cond (is_whole parts.0 parts.1) (done parts.0) (Err 0)) i e in
    let w = whole_ok (is_whole p.0.0 p.0.1) p.0.0 i p.2 in
    let parts = parts_read format b p.0 p.1 in
    let two = both_true (are_made p.0.1 p.0.0.branches) (list_all (λ (ss : List SegmentPart). heads_once (length p.0.1) ss && keys_once p.0.1 ss) p.0.0.segments) w.0 in
    (parts.0, p.0.1, subst (λ (j : Image). IsImage j parts.0 p.0.1) w.1 (record { parts = parts.1; made = two.0; heads = two.1 }))
