-- What the writer promises: the answer to what it is given, and what the lent text holds afterwards. Assumes nothing.
use Rattle.refusals.specs.declared.Refusal.{Refusal}
use Rattle.std.specs.Prelude.{◌≡◌, ℕ, length, Ok, Err, Result}
use Rattle.refusals.specs.Refusals.{Checked}
use Rattle.refusals.specs.Said.{Said, accepted, refused, or_refused}
use Rattle.layout.specs.Layout.{Bytes}
use Rattle.text_tables.specs.Laid.{laid}
use Rattle.text_tables.specs.Written.{written_text}
use Rattle.write_check.specs.Rows.{Unchecked, write_checked}

-- the answer, and what the lent text holds afterwards
pub record Outcome : Type 0 where
  pub answer : Result ℕ Refusal
  pub text : Bytes

-- how many bytes were written, or the refusal
abbrev pub said : Result ℕ Refusal → Said ℕ
said (Ok n) = accepted n
said (Err why) = refused why

-- the first row of the writer's refusals that applies, where one does
abbrev pub checked_of : Unchecked → Bytes → Checked
checked_of given before = write_checked given (length before)

unfoldable pub answer_to : Unchecked → Bytes → Said ℕ
answer_to given before = or_refused (checked_of given before) (accepted (length (written_text given.tables)))

abbrev pub or_untouched : Checked → Bytes → Bytes → Bytes
or_untouched (Ok _) before after = after
or_untouched (Err why) before after = before

-- "a writer, which uses the kept text": what is written, in front of what the text held; its entry contents where the call is refused
unfoldable pub text_after : Unchecked → Bytes → Bytes
text_after given before = or_untouched (checked_of given before) before (laid (written_text given.tables) before)

-- the promise
pub record Promised (given : Unchecked) (before : Bytes) (outcome : Outcome) : Type 0 where
  pub answers : said outcome.answer ≡ answer_to given before
  pub text : outcome.text ≡ text_after given before

-- no two different outcomes satisfy one promise; proved in proofs/Unique
abbrev pub OnlyOne : Type 0
OnlyOne = (given : Unchecked) (before : Bytes) (a b : Outcome) → Promised given before a → Promised given before b → a ≡ b
