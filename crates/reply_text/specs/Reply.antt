-- The echo of a line, and its reply.
use Rattle.std.specs.Prelude.{ℕ, List, ◌++◌, length, Some, None, codes}
use Rattle.std.specs.List.{All, flat_map}
use Rattle.db_value.specs.declared.reply.Reply.{Reply}
use Rattle.db_value.specs.declared.reply.Reply.TheVariants.{Done, Made, One, Listed, Paired, Versions, Layout, Refused}
use Rattle.db_value.specs.Version.{place_text}
use Rattle.reply_text.specs.Piece.{line_end, record_text, count_text}
use Rattle.reply_text.specs.Rows.{HasNames, marked_text, pair_text}
use Rattle.reply_text.specs.Report.{log_text, log_end, segment_text}
use Rattle.reply_text.specs.Refusal.{refusal_text}

-- the positions of each listed row have names
abbrev pub NamesItsRows : Reply → Type 0
NamesItsRows (Listed names rows) = All (λ m. HasNames names m.positions) rows
NamesItsRows _ = Unit {0}

-- the line again, behind `> `
abbrev pub echo_text : List ℕ → List ℕ
echo_text line = codes "> " ++ line ++ line_end

-- the lines of a reply
abbrev pub reply_text : Reply → List ℕ
reply_text Done = codes "ok" ++ line_end
reply_text (Made branch position) = codes "ok " ++ place_text branch (Some position) ++ line_end
reply_text (One None) = codes "none" ++ line_end
reply_text (One (Some row)) = record_text row ++ line_end
reply_text (Listed names rows) = flat_map (marked_text names) rows ++ count_text (codes "rows") (length rows)
reply_text (Paired pairs) = flat_map pair_text pairs ++ count_text (codes "rows") (length pairs)
reply_text (Versions lines whole) = flat_map log_text lines ++ log_end lines whole
reply_text (Layout lines) = flat_map segment_text lines ++ count_text (codes "segments") (length lines)
reply_text (Refused why) = codes "refused " ++ refusal_text why ++ line_end
