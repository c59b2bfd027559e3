-- Document 01, "Numbered refusals", row 8 for a call on a single line: "a finished state or transition score or feature count is not finite". Assumes nothing.
use Rattle.std.specs.Prelude.{List, [], ◌∷◌, ℕ, ◌+◌, ◌*◌, Float, Ok, Err}
use Rattle.refusals.specs.Refusals.{Checked, refused_at, lowest, first}
use Rattle.refusals.specs.Tables.{not_finite}

-- 8 of the first n of a table, "in 8, the lowest index": for counts, whose place is the "feature id", there is nothing more
abbrev pub finished_checked : List Float → ℕ → Checked
finished_checked numbers n = lowest 8 (not_finite numbers) n

-- the place is counted on from so many others
abbrev pub placed_after : ℕ → Checked → Checked
placed_after others (Ok _) = Ok tt
placed_after others (Err why) = refused_at why.number (others + why.place)

-- 8 of a line's scores | "t·L+l, then T·L+prev·L+next"
unfoldable pub scores_finished : ℕ → ℕ → List Float → List Float → Checked
scores_finished labels words states transitions =
    first
    (finished_checked states (words * labels)
    ∷ placed_after (words * labels) (finished_checked transitions (labels * labels))
    ∷ [])
