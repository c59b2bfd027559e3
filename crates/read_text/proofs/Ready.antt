-- A survey whose checks accept leaves the text ready to be filled. Assumes nothing.
use Rattle.std.specs.Prelude.{Ok}
use mathlib.Core.Path.{◌≡◌, sym, ap, subst, ◌∙◌}
use mathlib.Core.List.{List, map}
use Prim.Native.Nat.{ℕ, ◌≤◌}
use native.Mathlib.Omega.{arith}
use lib.ListN.{length, take}
use lib.Seq.{take_all}
use Rattle.refusals.specs.Refusals.{Checked}
use Rattle.refusal_rows.specs.Limits.{AllWithin}
use Rattle.layout.specs.Layout.{Bytes, Word, escaped, WellFormed, sequences}
use Rattle.text_tables.specs.Pieces.{pieces_of}
use Rattle.text_tables.specs.Tally.{tally_of, Tallies}
use Rattle.text_tables.proofs.Tallied.{tally_means}
use Rattle.distinct.specs.Names.{Known}
use Rattle.survey.specs.declared.NameSums.{NameSums}
use Rattle.survey.specs.declared.Survey.{Survey}
use Rattle.survey.specs.Surveyed.{KnowsFront}
use Rattle.survey.proofs.Named.{name_tabled}
use Rattle.fill_text.specs.Filled.{TextRoom, TextReady}
use Rattle.text_check.specs.Rows.{text_counts, text_checked}
use Rattle.text_check.specs.Told.{TellsSequences, FewSurvey, TextSurveyed}
use Rattle.text_check.proofs.Meant.{text_checks_mean}
use Rattle.text_check.proofs.Tells.{text_surveyed}
use Rattle.read_text.specs.Promise.{Buffers, sizes_for, lengths_of, checked_of}
use Rattle.read_text.specs.Sizes.{sizes_rooms}
use Rattle.read_text.specs.Steps.{SmallSurvey, SurveyMade}
use Rattle.read_text.proofs.Figures.{rooms_are, labels_counted, names_counted, survey_small}

-- the front of names is all of them where they are few
all_known : {text : Bytes} {places : List ℕ} {names these : List Bytes} {known : NameSums} → KnowsFront text places names known → names ≡ these → length these ≤ length places → Known text places known.count (map escaped these)
all_known {text} {places} {names} {these} {known} k e few =
    subst (λ (ns : List Bytes). Known text places known.count (map escaped ns)) (ap (take (length places)) e ∙ take_all (length places) these few) k.knows

module _ {text : Bytes} {labels slots positions : List ℕ} {s : Survey} (g : SurveyMade text labels slots positions s) where
  pub surveyed : (h : WellFormed text) → TextSurveyed (sequences h.lines) s
  surveyed h = text_surveyed h g.readable.small g.labels_long g.positions_long (g.surveys h)

  pub few_made : FewSurvey s
  few_made = (surveyed g.readable.formed).few

  -- what the check said of the survey is what it says of the text's sequences
  pub checked_as : (before : Buffers) {r : Checked} → ((bytes : ℕ) (ss : List (List Word)) → bytes ≤ 4294967295 → TellsSequences ss s → r ≡ text_checked bytes ss (lengths_of before))
      → (h : WellFormed text) → r ≡ checked_of text (sequences h.lines) before
  checked_as before e h = e (length text) (sequences h.lines) g.readable.small (surveyed h).tells

  module _ (before : Buffers) (accepted : (h : WellFormed text) → checked_of text (sequences h.lines) before ≡ Ok tt) where
    pub within : (h : WellFormed text) → AllWithin (text_counts (sequences h.lines))
    within h = ((text_checks_mean (length text) (sequences h.lines) (lengths_of before)).1.accepted.0 (accepted h)).0.1.0

    -- each table is as long as the sizes say
    roomy : (h : WellFormed text) → AllWithin (sizes_rooms (sizes_for (sequences h.lines)) (lengths_of before))
    roomy h =
        subst AllWithin (sym (rooms_are (sequences h.lines) (lengths_of before)))
        ((text_checks_mean (length text) (sequences h.lines) (lengths_of before)).1.accepted.0 (accepted h)).0.1.1

    pub small_made : SmallSurvey s
    small_made = survey_small g.readable.formed g.readable.small (surveyed g.readable.formed) (within g.readable.formed)

    room_made : (h : WellFormed text) → TextRoom (sequences h.lines) text labels s.labels.count positions s.names.count
        before.line_starts before.word_starts_of before.ids before.values before.references before.weights before.label_starts_of before.label_bytes_of before.name_starts_of before.name_bytes_of before.scale_starts_of before.scale_bytes_of
    room_made h =
        let ss : List (List Word) = sequences h.lines in
        let m : Tallies ss (tally_of (pieces_of h.lines)) = tally_means h.lines in
        let w = within h in
        let r = roomy h in
        let l = (labels_counted ss s (surveyed h).tells w).count in
        let n = (names_counted ss s (surveyed h).tells w).count in
        record {
          words = record {
            knows = all_known (g.surveys h).labelled m.labels (let few = w.0 in let k = g.labels_long in omega (arith, few, k));
            line_starts = omega (arith, r);
            word_starts_of = omega (arith, r);
            references = omega (arith, r);
            weights = omega (arith, r);
          };
          attributes = record {
            knows = all_known (g.surveys h).named.listed m.names (let few = w.1.0 in let k = g.positions_long in omega (arith, few, k));
            ids = omega (arith, r);
            values = omega (arith, r);
            starts = omega (arith, r);
            scales = omega (arith, r);
          };
          label_starts_of = omega (arith, r, l);
          label_bytes_of = omega (arith, r);
          name_starts_of = omega (arith, r, n);
          name_bytes_of = omega (arith, r);
        }

    pub text_ready : TextReady text labels s.labels.count slots positions s.names.count
        before.line_starts before.word_starts_of before.ids before.values before.references before.weights before.label_starts_of before.label_bytes_of before.name_starts_of before.name_bytes_of before.scale_starts_of before.scale_bytes_of
    text_ready =
        let h = g.readable.formed in
        let few = (within h).1.0 in
        let n = (names_counted (sequences h.lines) s (surveyed h).tells (within h)).count in
        let k = g.positions_long in
        let j = g.slots_long in
        record {
          formed = h;
          small = g.readable.small;
          labels_few = few_made.labels;
          few = few_made.names;
          tabled = name_tabled (g.surveys h).named (omega (arith, few, n, k)) (omega (arith, k, j)) (omega (arith, j));
          room = room_made;
        }
