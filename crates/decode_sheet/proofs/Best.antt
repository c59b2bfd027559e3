-- A path's line is written exactly for the files of sound sheets, and its path is best, as demand 3 says. Assumes nothing.
use mathlib.Core.Path.{◌≡◌, refl, sym, ◌∙◌, ap}
use mathlib.Core.List.{List}
use Prim.Native.Nat.{ℕ}
use native.Mathlib.Omega.{arith}
use lib.ListN.{length, take, drop}
use lib.Seq.{take_at}
use lib.Ieee.{Float}
use Rattle.refusals.specs.Said.{accepted}
use Rattle.best_path.specs.Decoded.{decoded_path, decoded_sum}
use Rattle.best_path.specs.BestPath.{BestPath}
use Rattle.best_path.proofs.Laws.{tabled_finite}
use Rattle.best_path.proofs.Demand3.{demand_3}
use Rattle.sheet.specs.File.{Sheet, encoded, SoundSheet}
use Rattle.sheet.proofs.Files.{labels_back, words_back, transitions_back, states_back, right_file, right_files}
use Rattle.answer_line.specs.Line.{path_line_of}
use Rattle.answer_line.proofs.OneSaying.{one_saying}
use Rattle.decode_sheet.specs.Answer.{path_line_for, buffer_checked}
use Rattle.decode_sheet.specs.Promise.{Given, Outcome, said, answer_to, line_after, Promised}
use Rattle.decode_sheet.specs.Program.{printed_line}
use Rattle.decode_sheet.specs.Meaning.{SaysPath}
use Rattle.decode_sheet.specs.Best.{scores_of_sheet, SaysBest, PrintedPathsAreBest, AnsweredPathsAreBest}
use Rattle.decode_sheet.proofs.Print.{path_by}
use Rattle.decode_sheet.proofs.Prints.{path_line_back, prints_the_path}
use Rattle.decode_sheet.proofs.Meant.{sayable, answering_means, printing_means, line_printed}

module _ (s : Sheet) (sound : SoundSheet s) where
  decoded_best : BestPath (scores_of_sheet s) s.words (decoded_path (scores_of_sheet s) s.words) (decoded_sum (scores_of_sheet s) s.words)
  decoded_best =
      demand_3 (scores_of_sheet s) s.words sound.labels_in.low sound.words_in_lem.low
      (tabled_finite s.labels s.words s.transitions s.states
      (λ i l. sound.finite_transitions.finite64 i (omega (arith, sound.all_transitions)))
      (λ i l. sound.finite_states.finite64 i (omega (arith, sound.all_states))))

  -- the line of the file's path
  says_best : (line : List ℕ) → line ≡ path_line_of (decoded_sum (scores_of_sheet s) s.words) (decoded_path (scores_of_sheet s) s.words) → SaysBest s line
  says_best line e = record {
    sum = decoded_sum (scores_of_sheet s) s.words;
    labels = decoded_path (scores_of_sheet s) s.words;
    says =
        record {
          sayable = rw (labels_back s sound, words_back s sound, transitions_back s sound, states_back s sound) at (sayable (encoded s) (right_file s sound).in_bounds);
          says = e;
        };
    best = decoded_best;
  }

-- whatever path a line says is the best that it says
best_said : (s : Sheet) (line : List ℕ) → SaysBest s line → (sum : Float) (labels : List ℕ) → SaysPath line sum labels → BestPath (scores_of_sheet s) s.words labels sum
best_said s line b sum labels says =
    let same = one_saying.path sum b.sum labels b.labels says.sayable b.says.sayable (sym says.says ∙ b.says.says) in
    rw (same.0, same.1) b.best

pub printed_paths_are_best : PrintedPathsAreBest
printed_paths_are_best bytes before size after p =
    let every : (s : Sheet) → SoundSheet s → bytes ≡ encoded s → SaysBest s (take size after) = λ s sound e. says_best s sound _ (line_printed p ∙ ap printed_line e ∙ prints_the_path s sound) in
    record {
      every = every;
      only = λ all sum labels says.
          let w = (right_files bytes all).0 ((printing_means bytes before size after p).path.0 (sum, labels, says)) in
          (w.0, w.1, w.2, best_said w.0 (take size after) (every w.0 w.1 w.2) sum labels says);
    }

-- the line that was written
answered_line : (given : Given) (before : List ℕ) (outcome : Outcome) → Promised given before outcome → (size : ℕ) → said outcome.answer ≡ accepted size → take size outcome.line ≡ path_line_for given.bytes
unfolding answer_to line_after
answered_line given before outcome p size h =
    let text = path_line_for given.bytes in
    let w = path_by text (buffer_checked given.bytes (length before)) size (sym h ∙ p.answers) in
    rw (w.1, p.fills_line, w.0) (take_at text (drop (length text) before) (length text) refl)

pub answered_paths_are_best : AnsweredPathsAreBest
answered_paths_are_best given before outcome p =
    let m = (answering_means given before outcome p).accepted in
    let line = answered_line given before outcome p in
    let every : (s : Sheet) → SoundSheet s → given.bytes ≡ encoded s → (size : ℕ) → said outcome.answer ≡ accepted size → SaysBest s (take size outcome.line) = λ s sound e size h. says_best s sound _ (line size h ∙ ap path_line_for e ∙ path_line_back s sound) in
    record {
      every = λ s sound e long.
          let a = m.1 (rw e (right_file s sound), (long, tt)) in
          (a.0, a.1, every s sound e a.0 a.1);
      only = λ all size h.
          let w = (right_files given.bytes all).0 (m.0 (size, h)).0 in
          (w.0, w.1, w.2, every w.0 w.1 w.2 size h);
    }
