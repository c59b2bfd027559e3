mod Notes
mod StateTurns
mod TransitionTurns
