-- Length, count and blocks, in the code's order.
use Rattle.rules.specs.Event.{ANSWER, bad_block, be2}
use mathlib.Core.Option.{some}
use Rattle.laws.specs.Lists.{any}
use Rattle.wire_events.proofs.Readings.{all_pairs, bad_block_lem, many_pairs, well_formed, wrong_length}
use lib.ListN.{get_or}
use mathlib.Core.Path.{◌∙◌, ap, sym}
use native.Mathlib.Omega.{arith}
use Rattle.wire_events.proofs.decode_answer.Goals as goal
use Rattle.wire_events.proofs.decode_answer.Goals.{then-count-gt-MAX_PAIRS-via-then-count-gt-MAX_PAIRS, then-count-gt-MAX_PAIRS-via-else-count-gt-MAX_PAIRS+then-bytes-count}

pub returns-then-bytes-lt-ANSWER_HEAD : goal.returns-then-bytes-lt-ANSWER_HEAD
returns-then-bytes-lt-ANSWER_HEAD c = wrong_length c.args.bytes.now (λ e. omega (arith, c.if-bytes-lt-ANSWER_HEAD.true))

pub returns-then-count-gt-MAX_PAIRS : goal.returns-then-count-gt-MAX_PAIRS
returns-then-count-gt-MAX_PAIRS c =
    elim c.then-count-gt-MAX_PAIRS.branch [
      | then-count-gt-MAX_PAIRS-via-then-count-gt-MAX_PAIRS w ↦ many_pairs c.args.bytes.now w.if-count-gt-MAX_PAIRS.true
      | then-count-gt-MAX_PAIRS-via-else-count-gt-MAX_PAIRS+then-bytes-count w ↦ wrong_length c.args.bytes.now w.if-bytes-count.true
    ]

pub returns-then-has_bad_block : goal.returns-then-has_bad_block
returns-then-has_bad_block c =
    let few = c.if-count-gt-MAX_PAIRS.false in
    let long = c.if-bytes-count.false in
    bad_block_lem c.args.bytes.now few long (ap (any bad_block) (sym (c.read_pairs-pairs.ensures.0 ∙ all_pairs c.args.bytes.now few long)) ∙ sym c.has_bad_block.ensures ∙ c.if-has_bad_block.true)

pub returns : goal.returns
unfolding be2
returns c =
    let few = c.if-count-gt-MAX_PAIRS.false in
    let long = c.if-bytes-count.false in
    let read = c.read_pairs-pairs.ensures.0 ∙ all_pairs c.args.bytes.now few long in
    (λ t. some (ANSWER (c.read4.ensures t) (get_or c.args.bytes.now 7 0) (c.word.ensures.0 t) (read t)))
    ∙ well_formed c.args.bytes.now few long (ap (any bad_block) (sym read) ∙ sym c.has_bad_block.ensures ∙ c.if-has_bad_block.false)
