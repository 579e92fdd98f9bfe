-- The words of 2, with the sizes in them.
use Rattle.text_out.specs.Spelling.{filled_from, value_of, decimal_of, width_of, places_by}
use Rattle.text_numbers.proofs.Tables.{told}
use Rattle.text_numbers.proofs.of_compare.Goals as goal

pub returns-in-2 : goal.returns-in-2
unfolding filled_from value_of decimal_of width_of places_by
returns-in-2 c = search told
