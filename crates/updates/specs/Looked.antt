-- What a visit finds before it learns. Assumes nothing.
use Rattle.training.specs.declared.Progress.{Progress}
use Rattle.std.specs.Prelude.{Bool, cond, Some, None, Option}
use Rattle.training.specs.Visits.{TrainingState, refused_as, unchanged}

-- "8 looks at scores"; "Updated: labels differ", so where they agree the visit ends as unchanged
unfoldable pub looked : (finite agree : Bool) → TrainingState → Option Progress
looked finite agree s = cond finite (cond agree (Some (unchanged s).progress) None) (Some (refused_as 8 s).progress)
