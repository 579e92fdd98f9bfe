-- The rules by computation: whoever unfolds `play` or another name of this file has everything that it computes with unfolded too.
use Rattle.std.specs.Prelude.{ℕ, List}
use Rattle.laws.specs.Lists
use Rattle.rules.specs.Picture
use Rattle.rules.specs.Event
use Rattle.rules.specs.Order
use Rattle.rules.specs.Renumber
use Rattle.rules.specs.Step
use Rattle.rules.specs.Ending
use Rattle.rules.specs.Run
use Rattle.rules.specs.Listing
use Rattle.rules.specs.Telegram

-- the definitions of the ring picture, of records and orders, of the steps, of the listing and of telegrams
unfoldable pub open_picture : Unit {0}
unfolding Lists.any Lists.select Lists.collect Lists.up_from Picture.is_not_ok Picture.is_ok Picture.same_pair Picture.holds Picture.with_status Picture.with_rows Picture.with_state Picture.with_delay Picture.kept_by Picture.pairs_of Picture.has_address Picture.has_other_address Picture.pairs_in Picture.keeps Picture.keeps_other Picture.is_open_status Picture.is_silent_status Picture.is_ignored_status Picture.is_open Picture.is_silent Picture.is_ignored Picture.in_range Picture.bars_status Picture.bars Picture.new_row Picture.no_row Picture.row_at Picture.seat_at Picture.others Picture.put Picture.open_at Picture.nodes_in Picture.nodes Picture.legal_size Picture.fresh Picture.fresh_number
open_picture = tt

unfoldable pub open_records : Unit {0}
unfolding Event.be2 Event.be4 Event.two Event.four Event.read_pairs Event.pair_bytes Event.bad_block Event.good_nodes Event.check Event.decode_plain Event.decode_answer Event.decode Event.header Event.encode_event Order.kind_of Order.body_of Order.encode Order.encode_all
open_records = tt

unfoldable pub open_steps : Unit {0}
unfolding Renumber.is_good Renumber.judge Renumber.goods Renumber.numbers_of Renumber.is_in Renumber.least_from Renumber.least_free Renumber.free_number Renumber.offer Renumber.renumber_from Renumber.renumber Renumber.place_of Renumber.tries_of Step.refuse_if Step.asks Step.scanned Step.scan Step.begin Step.rescanned Step.rescan Step.network_change Step.shut_down Step.change_rows Step.silenced Step.asked Step.delay_ends Step.first_that_applies Step.verdict Step.ignored Step.counted Step.at_limit Step.on_counted Step.emptied Step.conflict Step.status_after Step.set_order Step.judged_for Step.renumbering_for Step.listed_row Step.keep_answer Step.nobody Step.answer Step.takes Step.not_taken Step.no_position Step.respond Ending.becomes_ok Ending.settled Ending.ok_order Ending.missing Ending.packed Ending.tell Ending.lost Ending.gained Listing.entry Listing.entries_of Listing.entries_from Listing.listing Listing.listed_pairs Ending.tell_rows Ending.told_by Ending.told Ending.waits Ending.wait_order Ending.ended Ending.end_orders Ending.orders_of Ending.picture_of Run.on_event Run.on_decoded Run.concluded Run.step Run.left Run.sent_with Run.sent_by Run.written Run.number_of Run.after Run.history Run.result_of Run.results
open_steps = tt

unfoldable pub open_listing : Unit {0}
unfolding Listing.entry Listing.entries_of Listing.listed_of Listing.entries_from Listing.listed_from Listing.listing Listing.listed_pairs Listing.listed_positions Listing.first_of Listing.look_up Listing.lookup_number Listing.lookup_position Listing.lookup_address
open_listing = tt

unfoldable pub open_telegrams : Unit {0}
unfolding Telegram.head_bytes Telegram.tel_id_of Telegram.tel_len_of Telegram.telegram Telegram.count_of Telegram.tel_id_for Telegram.part_of Telegram.telegram_of Telegram.count Telegram.cut Telegram.telegrams Telegram.unchanged Telegram.dropped Telegram.begins Telegram.continues Telegram.join_to Telegram.malformed Telegram.join Telegram.join_all Telegram.count_number Telegram.count_value Telegram.cut_number Telegram.cut_bytes Telegram.cut_length Telegram.join_number Telegram.join_msg_id Telegram.join_length
open_telegrams = tt

-- what the box gives back for each record of a list, from any picture, and from a fresh picture for L
unfoldable pub play_from : Picture.Picture → List Run.Record → List Run.Result
unfolding open_picture open_records open_steps
play_from p rs = Run.results p rs

unfoldable pub play : ℕ → List Run.Record → List Run.Result
unfolding play_from
play l rs = play_from (Picture.fresh l) rs

-- the picture that the list leaves, its listing, its listed positions, and a look-up in it
unfoldable pub play_picture : ℕ → List Run.Record → Picture.Picture
unfolding open_picture open_records open_steps
play_picture l rs = Run.after (Picture.fresh l) rs

unfoldable pub play_listing : ℕ → List Run.Record → List Listing.Entry
unfolding play_picture open_listing
play_listing l rs = Listing.listing (play_picture l rs)

unfoldable pub play_listed : ℕ → List Run.Record → List Listing.Listed
unfolding play_picture open_listing
play_listed l rs = Listing.listed_positions (play_picture l rs)

unfoldable pub play_look_up : ℕ → List Run.Record → Picture.Pair → Listing.Lookup
unfolding play_picture open_listing
play_look_up l rs a = Listing.look_up (play_picture l rs) a

-- a message counted, cut and joined
unfoldable pub play_count : (size : ℕ) → List ℕ → Telegram.Count
unfolding open_picture open_records open_telegrams
play_count size payload = Telegram.count size payload

unfoldable pub play_cut : (size msg_id : ℕ) → List ℕ → (k room : ℕ) → Telegram.Cut
unfolding open_picture open_records open_telegrams
play_cut size msg_id payload k room = Telegram.cut size msg_id payload k room

unfoldable pub play_join : (size : ℕ) → Telegram.Joining → (buffer : List ℕ) → List (List ℕ) → Telegram.JoinedAll
unfolding open_picture open_records open_telegrams
play_join size s b ts = Telegram.join_all size s b ts
