-- The numbers and values that stand beside each other in every answer, by definition.
use mathlib.Core.Path.{◌≡◌, refl}
use mathlib.Core.Bool.{true}
use Rattle.laws.specs.Bools.{clash}
use Rattle.rules.specs.Picture.{nodes_in, Status, WAITING, SETTING, LISTED, SILENT, IGNORED, is_silent_status}
use Rattle.rules.specs.Run.{result_of, number_of, written}
use Rattle.rules.specs.Listing.{lookup_number, lookup_position, lookup_address}
use Rattle.rules.specs.Telegram.{count_number, count_value, cut_number, cut_bytes, cut_length, join_number, join_msg_id, join_length}
use Rattle.rules.specs.Claims.{Values}

silent_alone_lem : (s : Status) → is_silent_status s ≡ true → s ≡ SILENT
unfolding is_silent_status
silent_alone_lem WAITING h = clash h refl
silent_alone_lem (SETTING a ps i t) h = clash h refl
silent_alone_lem (LISTED a ps) h = clash h refl
silent_alone_lem SILENT h = refl
silent_alone_lem (IGNORED a) h = clash h refl

pub values : Values
unfolding nodes_in result_of number_of written lookup_number lookup_position lookup_address count_number count_value cut_number cut_bytes cut_length join_number join_msg_id join_length
values =
    record {
      refused_record = λ n. refl;
      taken_record = λ q os. (refl, refl);
      not_found_entry = λ n. (refl, refl, refl);
      found_entry = λ x a. (refl, refl, refl);
      not_counted = λ n. (refl, refl);
      counted = λ k. (refl, refl);
      not_cut = λ n. (refl, refl, refl);
      cut_telegram = λ t. (refl, refl, refl);
      not_joined = λ n. (refl, refl, refl);
      not_yet_joined = (refl, refl, refl);
      joined_message = λ m n. (refl, refl, refl);
      nodes_off = λ rows. refl;
      nodes_not_ok = λ rows. refl;
      nodes_ok = λ rows. refl;
      silent_alone = silent_alone_lem;
    }
