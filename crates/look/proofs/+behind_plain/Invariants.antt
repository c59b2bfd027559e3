-- `look::behind` and `look::plain` come nearer to the end of the window with each call. Assumes nothing.
use Rattle.std.proofs.Common.{◌-◌}
use Rattle.look.proofs.+behind_plain.Given as goal

abbrev pub decreases-behind : goal.decreases-behind
decreases-behind l = l.end - l.at

abbrev pub decreases-plain : goal.decreases-plain
decreases-plain l = l.end - l.at
