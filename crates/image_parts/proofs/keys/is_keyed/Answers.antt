use Rattle.std.proofs.Common.{◌≡◌, ◌+◌, ◌<◌, suc, ℕ, length, refl, sym, subst, ◌∙◌, arith}
use Rattle.image_parts.specs.Whole.{keys_at, is_table, is_keyed}
use Rattle.image_parts.specs.Walk.{AreSmall, all_keys, Shows}
use Rattle.image_parts.proofs.Tables.{table_is, goes, stops, shows_none, shows_next, keyed_is}
use Rattle.image_parts.proofs.Numbers.{numbers_small}
use Rattle.image_parts.proofs.keys.is_keyed.Goals as goal

pub returns-then-not-is_table : goal.returns-then-not-is_table
returns-then-not-is_table c =
    let shown : Shows c.args.branch c.args.segments.now (suc c.positions.n) c.step.new.self.bits.items = c.step.ensures.shows c.args.branch (c.deref.ensures.value ∙ c.in_ok-lanes.ensures) c.positions.invariant.1 in
    stops (λ (n : ℕ). is_table (keys_at c.args.branch n c.args.segments.now)) (suc c.args.last) c.positions.n (is_keyed c.args.segments.now c.args.last c.args.branch) (omega (arith, c.positions-test.true))
    (sym (table_is c.args.branch c.args.segments.now c.positions.n c.args.numbers.now c.step.new.self c.requires c.step.ensures.agrees shown) ∙ sym c.is_table.ensures ∙ c.if-not-is_table.true) c.positions.invariant.2

pub positions-preserved : goal.positions-preserved
positions-preserved c =
    let shown : Shows c.args.branch c.args.segments.now (suc c.positions.n) c.step.new.self.bits.items = c.step.ensures.shows c.args.branch (c.deref.ensures.value ∙ c.in_ok-lanes.ensures) c.positions.invariant.1 in (
      c.step.ensures.agrees,
      shows_next c.args.branch c.args.segments.now c.positions.n c.step.new.self.bits.items shown,
      goes (λ (n : ℕ). is_table (keys_at c.args.branch n c.args.segments.now)) (suc c.args.last) c.positions.n (is_keyed c.args.segments.now c.args.last c.args.branch) (omega (arith, c.positions-test.true))
          (sym (table_is c.args.branch c.args.segments.now c.positions.n c.args.numbers.now c.step.new.self c.requires c.step.ensures.agrees shown) ∙ sym c.is_table.ensures ∙ c.if-not-is_table.false) c.positions.invariant.2,
    )

pub positions-init : goal.positions-init
positions-init c = (
  c.in_ok-walk.ensures.agrees c.args.numbers.now refl (subst AreSmall (sym c.requires) (numbers_small (all_keys c.args.segments.now))),
  shows_none c.args.branch c.args.segments.now (length c.args.numbers.now) c.in_ok-walk.walk.bits.items c.in_ok-walk.ensures.clear,
  keyed_is c.args.segments.now c.args.last c.args.branch,
)
