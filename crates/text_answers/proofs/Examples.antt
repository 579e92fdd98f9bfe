-- Lines worked out, as the page gives them.
use Prim.Native.Char.{code}
use mathlib.Core.Path.{◌≡◌, refl}
use Rattle.text_words.specs.Text.{is_blank, is_dropped, trimmed_length}
use Rattle.laws.specs.Runs.{leading}
use Rattle.text_out.specs.Texts.{codes}
use Rattle.text_out.specs.Spelling.{places_by, width_of, decimal_of, value_of, filled_from}
use Rattle.text_arguments.specs.declared.Reason.TheVariants.{UnknownWord, TooLong}
use Rattle.text_numbers.specs.declared.Asked.TheVariants.{Record, Picture, Telegram, LookUp, Order, Unit}
use Rattle.text_answers.specs.Remarks.{kind_of, told_of, shown_of, spaced_of, comment_of, not_understood, refusal_of}
use Rattle.text_answers.specs.declared.LineKind.TheVariants.{EarlierAnswer, Offer}

-- an order's line, where records are offered and where orders are
own_answer : kind_of (code "<") (codes "< 4D4F") ≡ EarlierAnswer
unfolding kind_of
own_answer = refl

offered : kind_of (code ">") (codes "< 4D4F") ≡ Offer
unfolding kind_of
offered = refl

unknown : not_understood (codes "hello there") UnknownWord ≡ codes "# hello there\n# not understood: unknown word\n"
unfolding comment_of told_of shown_of spaced_of
unknown = refl

-- of a too long line 64 bytes are written back, without the blanks at their end
too_long : not_understood (codes "0123456789012345678901234567890123456789012345678901234567890   45") TooLong
    ≡ codes "# 0123456789012345678901234567890123456789012345678901234567890\n# not understood: line of more than 16384 bytes\n"
unfolding comment_of told_of shown_of spaced_of trimmed_length leading is_dropped is_blank filled_from value_of decimal_of width_of places_by
too_long = refl

refused : refusal_of Record 5 ≡ codes "! 5  not the current pass\n"
unfolding refusal_of decimal_of width_of places_by
refused = refl

passed_over : refusal_of Telegram 15 ≡ codes "! 15  TelID above 3: passed over\n"
unfolding refusal_of decimal_of width_of places_by
passed_over = refl

-- words with sizes in them
wrong_size : refusal_of Picture 10 ≡ codes "! 10  L is not 12 to 45\n"
unfolding refusal_of filled_from value_of decimal_of width_of places_by
wrong_size = refl

little_room : refusal_of Record 1 ≡ codes "! 1  order room below 8192 bytes\n"
unfolding refusal_of filled_from value_of decimal_of width_of places_by
little_room = refl

little_answer_room : refusal_of Order 1 ≡ codes "! 1  room below 64 bytes\n"
unfolding refusal_of filled_from value_of decimal_of width_of places_by
little_answer_room = refl

too_many_pairs : refusal_of Unit 2 ≡ codes "! 2  more than 24 pairs\n"
unfolding refusal_of filled_from value_of decimal_of width_of places_by
too_many_pairs = refl

long_payload : refusal_of Telegram 11 ≡ codes "! 11  payload above 65535 bytes\n"
unfolding refusal_of filled_from value_of decimal_of width_of places_by
long_payload = refl

-- a number that a look-up does not give back
without_words : refusal_of LookUp 19 ≡ codes "! 19  no words for this number\n"
unfolding refusal_of decimal_of width_of places_by
without_words = refl
