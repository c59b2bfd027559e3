-- `fill_text::word_piece` meets its contract. Assumes nothing.
use Rattle.fill_text.proofs.WordsOn.{word_may, words_blank, words_attribute, words_label}
use Rattle.fill_text.proofs.word_piece.Goals as goal

pub begin_word-requires : goal.begin_word-requires
begin_word-requires c =
    word_may c.in-Label.is c.requires

pub returns-in-Blank : goal.returns-in-Blank
returns-in-Blank c =
    words_blank c.in-Blank.is

pub returns-in-Label : goal.returns-in-Label
returns-in-Label c =
    words_label c.in-Label.is c.requires c.begin_word.ensures

pub returns-in-Attribute : goal.returns-in-Attribute
returns-in-Attribute c =
    words_attribute c.in-Attribute.is
