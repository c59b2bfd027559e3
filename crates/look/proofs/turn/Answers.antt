-- `look::turn` meets its contract. Assumes nothing.
use mathlib.Core.Path.{◌∙◌, sym, ap}
use Rattle.layout.specs.Scan.{next_mode_of}
use Rattle.look.proofs.Turns.{turned_end, turned_on, turned_stuck}
use Rattle.look.proofs.turn.Goals as goal

pub returns-then-i-end : goal.returns-then-i-end
returns-then-i-end c = turned_end _ _ _ _ _ c.through_name-w.ensures c.requires.1 c.if-i-end.true c.window_end-end.ensures.lower_bound.0 c.window_end-end.ensures.lower_bound.1

pub returns-then-is_alive : goal.returns-then-is_alive
returns-then-is_alive c =
    turned_on _ _ _ _ _ _ c.through_name-w.ensures c.if-i-end.false c.window_end-end.ensures.lower_bound.1
    (c.next_mode-next.ensures ∙ ap (next_mode_of c.through_name-w.result.mode) c.class_of.ensures) (sym c.is_alive.ensures ∙ c.if-is_alive.true)

pub returns : goal.returns
returns c =
    turned_stuck _ _ _ _ _ _ c.through_name-w.ensures c.if-i-end.false c.window_end-end.ensures.lower_bound.1
    (c.next_mode-next.ensures ∙ ap (next_mode_of c.through_name-w.result.mode) c.class_of.ensures) (sym c.is_alive.ensures ∙ c.if-is_alive.false)
