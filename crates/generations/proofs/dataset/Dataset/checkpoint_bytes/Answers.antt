use Rattle.std.proofs.Common.{◌+◌, ◌<◌, ◌^◌, ◌∙◌, length, sym, ap, arith}
use Rattle.generations.specs.Asides.{IsNextFile}
use Rattle.generations.specs.Datasets.{KeepsIn, OwesIn, generation_in, moment_in, OpensSinceIn}
use Rattle.generations.specs.Written.{behind_gate}
use Rattle.generations.proofs.Owing.{nothing_done, told_ok, told_err}
use Rattle.generations.proofs.Writing.{front_is}
use Rattle.generations.proofs.dataset.Dataset.checkpoint_bytes.Goals as goal

pub returns-in-Ok-clause-kept : goal.returns-in-Ok-clause-kept
returns-in-Ok-clause-kept g c s es f image either =
    told_ok KeepsIn OwesIn generation_in moment_in OpensSinceIn c.args.self.now c.checkpoint_last.new.self s es f c.checkpoint_last.result (c.checkpoint_last.ensures.kept s es f either) _ _ c.in-Ok.is

pub returns-in-Err-clause-kept : goal.returns-in-Err-clause-kept
returns-in-Err-clause-kept g c s es f image either =
    told_err KeepsIn OwesIn generation_in moment_in OpensSinceIn c.args.self.now c.checkpoint_last.new.self s es f c.checkpoint_last.result (c.checkpoint_last.ensures.kept s es f either) _ _ c.in-Err.is

pub returns-in-Err-next_bytes-clause-kept : goal.returns-in-Err-next_bytes-clause-kept
returns-in-Err-next_bytes-clause-kept g c s es f image either = nothing_done g.D.Disk g.met.D.Disk.only_now c.args.self.now s es f _ either

pub write_next-requires-clause-ends : goal.write_next-requires-clause-ends
write_next-requires-clause-ends g c =
    (behind_gate (c.args.self.now.generation + 1) c.args.image.now, c.deref.ensures.value ∙ c.in-Ok-next_bytes.ensures.bytes, sym c.in-Ok-next_bytes.ensures.long ∙ sym (ap length c.deref.ensures.value))

pub returns-in-Ok-write_next-clause-kept : goal.returns-in-Ok-write_next-clause-kept
returns-in-Ok-write_next-clause-kept g c s es f image either =
    let n = c.args.self.now.generation in
    let more : n < 2 ^ 63 = omega (arith, c.if-self-ge-MOST_GENERATION.false) in
    let next : IsNextFile n s c.deref.result.now = record {
      more = more;
      back = behind_gate (n + 1) c.args.image.now;
      spelled = c.deref.ensures.value ∙ c.in-Ok-next_bytes.ensures.bytes;
      is_front = front_is (n + 1) c.args.image.now s (omega arith) (omega (arith, more)) c.in-Ok-next_bytes.ensures.few image;
    } in
    told_ok KeepsIn OwesIn generation_in moment_in OpensSinceIn c.args.self.now c.write_next.new.self s es f c.write_next.result (c.write_next.ensures.kept s es f next either) _ _ c.in-Ok-write_next.is

pub returns-clause-kept : goal.returns-clause-kept
returns-clause-kept g c s es f image either =
    let n = c.args.self.now.generation in
    let more : n < 2 ^ 63 = omega (arith, c.if-self-ge-MOST_GENERATION.false) in
    let next : IsNextFile n s c.deref.result.now = record {
      more = more;
      back = behind_gate (n + 1) c.args.image.now;
      spelled = c.deref.ensures.value ∙ c.in-Ok-next_bytes.ensures.bytes;
      is_front = front_is (n + 1) c.args.image.now s (omega arith) (omega (arith, more)) c.in-Ok-next_bytes.ensures.few image;
    } in
    told_err KeepsIn OwesIn generation_in moment_in OpensSinceIn c.args.self.now c.write_next.new.self s es f c.write_next.result (c.write_next.ensures.kept s es f next either) _ _ c.in-Err-write_next.is
