use Rattle.reply_text.proofs.refusal.write_refusal.Goals as goal

pub returns-in-ValueCount : goal.returns-in-ValueCount
returns-in-ValueCount c = rw (c.in-ValueCount.is, ← c.from-in-ValueCount.ensures) c.write_numbered-in-ValueCount.ensures
