use Rattle.std.proofs.Common.{◌≡◌, sym, subst}
use Rattle.std.specs.Prelude.{IfOk}
use Rattle.db_store.specs.State.{laid}
use Rattle.hybrid_store.specs.declared.parts.LayoutParts.{LayoutParts}
use Rattle.hybrid_store.specs.Store.{state_of}
use Rattle.hybrid_store.specs.Parts.{AreSound, layout_of_parts}
use Rattle.db_image.proofs.FitLaw.{image_fits}
use Rattle.db_image.proofs.Laid.{image_sound}
use Rattle.db_image.proofs.decoding.store_of.Goals as goal

pub parts_of_image-requires : goal.parts_of_image-requires
parts_of_image-requires c = image_fits c.requires.0 c.requires.1 c.args.image c.requires.2 c.requires.3

pub assemble-requires : goal.assemble-requires
assemble-requires c = subst AreSound (sym c.in_ok-parts.ensures) (image_sound c.requires.0 c.requires.1 c.args.image c.requires.3)

pub returns : goal.returns
returns c = subst (λ (p : LayoutParts). IfOk c.assemble.result (λ s. state_of s ≡ laid (layout_of_parts p))) c.in_ok-parts.ensures c.assemble.ensures.state
