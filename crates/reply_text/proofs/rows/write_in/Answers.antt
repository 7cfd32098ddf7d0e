use Rattle.std.proofs.Common.{arith, rules, ◌<◌, length, suc}
use Rattle.reply_text.proofs.rows.write_in.Goals as goal

-- the other positions stand behind the first one
pub write_next_names-requires : goal.write_next_names-requires
write_next_names-requires c =
    let some : 0 < length c.args.names.now = search rules in
    let all = c.requires.within some in
    λ k d h. all (suc k) d (omega (arith, h))
