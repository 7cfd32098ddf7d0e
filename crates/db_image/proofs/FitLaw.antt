-- An image that is read fits a layout.
use Rattle.std.proofs.Common.{◌≡◌, ℕ, ◌≤◌, List, [], length, get_or, Ok, arith}
use Rattle.db_value.specs.Relations.{widths_at}
use Rattle.image_text.specs.declared.image.Format.{Format}
use Rattle.image_text.specs.declared.image.SegmentPart.{SegmentPart}
use Rattle.image_text.specs.declared.image.Image.{Image}
use Rattle.image_text.specs.Spelling.{FitsSegment}
use Rattle.image_text.specs.Laws.{IsBytes}
use Rattle.image_parts.specs.Whole.{image_at}
use Rattle.image_parts.proofs.ImageLaw.{image_is}
use Rattle.db_image.specs.Parts.{Fits}
use Rattle.db_image.proofs.FitsRelations.{fit_at}
use Rattle.db_image.proofs.SegmentsRead.{IsSegment}
use Rattle.db_image.proofs.Read.{image_read}
use Rattle.db_image.specs.Read.{IsFit}

segment_fits : (ws : List ℕ) (lasts : List ℕ) (few : (b : ℕ) → get_or lasts b 0 ≤ 65535) (s : SegmentPart) → IsSegment ws lasts s → FitsSegment ws s → Fits ws s
segment_fits ws lasts few s is fits = record {
  wide = λ i l. is.records i _ l;
  few = fits.records;
  short = λ k d l. let r = is.rows.each k d l in let f = r.full in let m = few (get_or s.rows k d).branch in omega (arith, f, m);
}

pub image_fits : (format : Format) (b : List ℕ) (i : Image) → IsBytes b → image_at format b ≡ Ok i → IsFit i
image_fits format b i bytes e =
    let r = image_read format b i e in
    let spelled = image_is format b i bytes e in
    record {
      counted = r.2.parts.relations;
      same_count = r.2.parts.count;
      fit = λ q l k d m. segment_fits (widths_at i.relations q) r.1 r.2.parts.versions.few (get_or (get_or i.segments q []) k d) ((r.2.parts.segments q l).each k d m) ((fit_at i.relations i.segments spelled.fits.segments q (let n = r.2.parts.count in omega (arith, n, l)) l).each k d m);
    }
