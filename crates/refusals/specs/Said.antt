-- What a call answers, in document 01's terms: what an accepted call gives, or the refusal, whole. Assumes nothing.
use Rattle.std.specs.Prelude.{Ok, Err}
use Rattle.refusals.specs.declared.Refusal.{Refusal}
use Rattle.refusals.specs.Refusals.{Checked}

pub data Said (A : Type 0) : Type 0 where
  accepted : A → Said A
  refused : Refusal → Said A

-- the refusal where a check refuses, or else what comes next
abbrev pub or_refused : {A : Type 0} → Checked → Said A → Said A
or_refused (Ok _) next = next
or_refused (Err why) next = refused why

-- of a call that gives nothing but its acceptance
abbrev pub said_of : Checked → Said Unit
said_of check = or_refused check (accepted tt)
