-- A part of a call's rows: what one narrow check looks at. A call takes the sooner of its parts. Assumes nothing.
use Rattle.std.specs.Prelude.{List, ◌∷◌}
use Rattle.refusals.specs.Refusals.{Checked, first}
use Rattle.refusal_rows.specs.Limits.{Limit, two}
use Rattle.refusal_rows.specs.Tests.{Test, checks}

-- 2 where a limit is broken, then the tests in order
unfoldable pub part_checked : List Limit → List Test → Checked
part_checked limits tests = first (two limits ∷ checks tests)
