-- `fill_text::fill_words` meets its contract. Assumes nothing.
use borrow.Author.Rules.{rules}
use native.Mathlib.Omega.{arith}
use Rattle.fill_text.proofs.WordsOn.{words_start, words_some, words_now, words_may, words_again, words_end, words_laid, one_is}
use Rattle.fill_text.proofs.fill_words.Goals as goal

pub loop-cursor-init : goal.loop-cursor-init
loop-cursor-init c = words_start c.start-cursor.ensures

pub piece_at-span-requires : goal.piece_at-span-requires
piece_at-span-requires c =
    words_some c.requires c.loop-cursor.invariant c.loop-cursor-test.true

pub word_piece-so_far-requires : goal.word_piece-so_far-requires
word_piece-so_far-requires c =
    words_may c.requires c.loop-cursor.invariant c.loop-cursor-test.true c.piece_at-span.ensures

pub after-cursor-requires : goal.after-cursor-requires
after-cursor-requires c =
    let n = words_now c.requires c.loop-cursor.invariant c.loop-cursor-test.true c.piece_at-span.ensures in
    omega (arith, n.met.stands.inside, c.requires.small)

pub loop-cursor-smaller : goal.loop-cursor-smaller
loop-cursor-smaller c =
    let n = words_now c.requires c.loop-cursor.invariant c.loop-cursor-test.true c.piece_at-span.ensures in
    omega (arith, n.met.from, n.met.stands.name.low, n.met.stands.low, n.met.stands.inside, c.after-cursor.ensures.on)

pub loop-cursor-preserved : goal.loop-cursor-preserved
loop-cursor-preserved c =
    words_again c.requires c.loop-cursor.invariant c.loop-cursor-test.true c.piece_at-span.ensures c.word_piece-so_far.ensures c.after-cursor.ensures (omega arith) (omega arith) (omega arith)

pub overflow_cast-line_starts : goal.overflow_cast-line_starts
overflow_cast-line_starts c =
    let e = words_end c.requires c.loop-cursor.invariant in
    omega (arith, e.words)

pub offset_bounds-line_starts-sequences : goal.offset_bounds-line_starts-sequences
offset_bounds-line_starts-sequences c =
    let e = words_end c.requires c.loop-cursor.invariant in
    omega (arith, e.sequences)

pub bounds-line_starts-sequences : goal.bounds-line_starts-sequences
bounds-line_starts-sequences c =
    let e = words_end c.requires c.loop-cursor.invariant in
    e.line

pub overflow_cast-word_starts : goal.overflow_cast-word_starts
overflow_cast-word_starts c =
    let e = words_end c.requires c.loop-cursor.invariant in
    omega (arith, e.attributes)

pub offset_bounds-word_starts-words : goal.offset_bounds-word_starts-words
offset_bounds-word_starts-words c =
    let e = words_end c.requires c.loop-cursor.invariant in
    omega (arith, e.words)

pub bounds-word_starts-words : goal.bounds-word_starts-words
bounds-word_starts-words c =
    let e = words_end c.requires c.loop-cursor.invariant in
    e.start

pub fill-requires : goal.fill-requires
fill-requires c =
    let e = words_end c.requires c.loop-cursor.invariant in
    e.weights

pub shape_of-line_starts : goal.shape_of-line_starts
shape_of-line_starts c =
    search (rules, c.loop-cursor.invariant.lines)

pub shape_of-word_starts : goal.shape_of-word_starts
shape_of-word_starts c =
    search (rules, c.loop-cursor.invariant.words)

pub shape_of-references : goal.shape_of-references
shape_of-references c =
    c.loop-cursor.invariant.references

pub returns : goal.returns
returns c =
    words_laid c.requires c.loop-cursor.invariant c.loop-cursor-test.false _ one_is c.fill.ensures
