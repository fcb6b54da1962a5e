-- The histories of the examples, each answer by computing.
use Rattle.std.proofs.Common.{◌≡◌, ℕ, ◌<◌, ◌≤◌, eqb, List, [], ◌∷◌, ◌++◌, length, Some, None, Ok, Err, Option, sym, refl, subst, lit<, lit≤}
use Rattle.std.proofs.ByRecursion.{All-get_or}
use Rattle.std.specs.List.{AllByRecursion}
use Rattle.base.specs.declared.refusal.Refusal.TheVariants.{NotLeading, AlreadyDecided}
use Rattle.carrier.specs.Meaning.{Meaning, Sound}
use Rattle.protocol.specs.declared.answers.Delivery.TheVariants as delivery
use Rattle.protocol.specs.declared.records.Cell.{Cell}
use Rattle.protocol.specs.declared.records.Message.{Message}
use Rattle.protocol.specs.declared.records.Outcome.TheVariants.{Commit, Abort}
use Rattle.protocol.specs.declared.records.Role.{Role}
use Rattle.protocol.specs.declared.records.Role.TheVariants.{Follower, Leader}
use Rattle.protocol.specs.declared.records.State.TheVariants.{Submitted}
use Rattle.protocol.specs.Paths.{path}
use Rattle.protocol.specs.View.{GatewayView, ChangeView}
use Rattle.protocol.specs.Calls.{started, open_refused, after_open, read_refused, read_value, after_read, write_refused, after_write, submit_refused, after_submit, stir_refused, look_refused, look_value}
use Rattle.protocol.specs.Roles.{elect_refused, after_elect, recall_refused, after_recall}
use Rattle.protocol.specs.Certify.{certify_refused, certified, after_certify}
use Rattle.protocol.specs.Deliver.{deliver_refused, delivered, after_deliver}
use Rattle.runs.specs.Runs.{World, stirs, delivers, elects, recalls, certifies, History, Reached, ServedNew, by_open, by_read, by_write, by_submit, by_elect, by_recall, by_certify, by_stir, by_deliver, by_look, new, then}
use Rattle.runs.specs.Examples.{two_shares, Happens, two_raises, dropped_off_late, dropped_off_early, taken_over}

sound_from : (m : Meaning) → AllByRecursion (λ n. n < m.count) m.line → AllByRecursion (λ p. p ≤ length m.line) m.places → length m.places ≡ m.gateways → Sound m
sound_from m a b e =
    record {
      line_below_count = λ i l. All-get_or (λ n. n < m.count) m.line i 0 l a;
      place_within_line = λ g l. All-get_or (λ p. p ≤ length m.line) m.places g 0 (subst (λ z. g < z) (sym e) l) b;
      place_for_each_gateway = e;
    }

-- the carrier with a count, a line and two places
abbrev carrier_with : ℕ → List ℕ → List ℕ → Meaning
carrier_with count line places = record { gateways = 2; capacity = 16; count = count; line = line; places = places }

served : ServedNew two_shares
served = record { sound = sound_from two_shares.carrier tt (lit≤ tt, (lit≤ tt, tt)) refl; served = refl }

-- the site on the way, with both changes submitted

abbrev share : ℕ → ℕ → Cell ℕ
share x d = record { value = x; depth = d }

abbrev gateway : Option ℕ → Role → Cell ℕ → Cell ℕ → GatewayView ℕ
gateway tip role a b = record { tip = tip; role = role; cells = a ∷ b ∷ [] }

-- a change that read both shares and raises one
abbrev raise : ℕ → ChangeView ℕ
raise k = record { home = k; opening = None; notes = record { setting = 0; value = 2000 } ∷ record { setting = 1; value = 2000 } ∷ []; updates = record { setting = k; value = 3000 } ∷ []; state = Submitted }

abbrev world : List Message → GatewayView ℕ → GatewayView ℕ → Meaning → World ℕ
world ms a b m = record { site = record { messages = ms; changes = raise 0 ∷ raise 1 ∷ []; gateways = a ∷ b ∷ []; settings = 2; limit = 4; room = two_shares.room }; carrier = m }

abbrev first_raise : Message
first_raise = record { precedent = None; change = 0; outcome = Commit }

abbrev raised : World ℕ
raised = world (first_raise ∷ []) (gateway None (Leader (Some 0)) (share 2000 0) (share 2000 0)) (gateway None Follower (share 2000 0) (share 2000 0)) (carrier_with 1 [] (0 ∷ 0 ∷ []))

both_raised : Reached eqb two_shares two_raises raised
unfolding started open_refused after_open read_refused read_value after_read write_refused after_write submit_refused after_submit elect_refused after_elect certify_refused certified after_certify path
both_raised =
    let opened-0 = then (new served) (by_open 0) in
    let opened-1 = then opened-0 (by_open 1) in
    let read-00 = then opened-1 (by_read 0 0 (Ok 2000) refl) in
    let read-01 = then read-00 (by_read 0 1 (Ok 2000) refl) in
    let read-10 = then read-01 (by_read 1 0 (Ok 2000) refl) in
    let read-11 = then read-10 (by_read 1 1 (Ok 2000) refl) in
    let wrote-00 = then read-11 (by_write 0 0 3000) in
    let wrote-11 = then wrote-00 (by_write 1 1 3000) in
    let submitted-0 = then wrote-11 (by_submit 0) in
    let submitted-1 = then submitted-0 (by_submit 1) in
    let elected-0 = then submitted-1 (by_elect 0 None) in
    then elected-0 (by_certify 0 0)

-- the leader drops off late

abbrev aborted_raise : Message
aborted_raise = record { precedent = Some 0; change = 1; outcome = Abort }

abbrev late_taken : World ℕ
late_taken = world (first_raise ∷ []) (gateway None (Leader (Some 0)) (share 2000 0) (share 2000 0)) (gateway (Some 0) Follower (share 3000 1) (share 2000 0)) (carrier_with 1 (0 ∷ []) (0 ∷ 1 ∷ []))

late_first : (h : History ℕ) → Reached eqb two_shares h raised → Reached eqb two_shares ((h ++ (stirs 0 (Ok 1) ∷ [])) ++ (delivers 1 (Ok (delivery.Commit 0)) ∷ [])) late_taken
unfolding stir_refused deliver_refused delivered after_deliver path
late_first h r =
    let stirred = then r (by_stir 0 (carrier_with 1 (0 ∷ []) (0 ∷ 0 ∷ [])) 1 (record { only_the_line = refl; begins_as_before = refl; joined_are_counted = refl }) (sound_from (carrier_with 1 (0 ∷ []) (0 ∷ 0 ∷ [])) (lit< tt, tt) (lit≤ tt, (lit≤ tt, tt)) refl)) in
    then stirred (by_deliver 1)

abbrev late_decided : World ℕ
late_decided = world (first_raise ∷ aborted_raise ∷ []) (gateway None (Leader (Some 0)) (share 2000 0) (share 2000 0)) (gateway (Some 0) (Leader (Some 1)) (share 3000 1) (share 2000 0)) (carrier_with 2 (0 ∷ []) (0 ∷ 1 ∷ []))

late_second : (h : History ℕ) → Reached eqb two_shares h late_taken → Reached eqb two_shares ((h ++ (elects 1 None (Ok tt) ∷ [])) ++ (certifies 1 1 (Ok (record { number = 1; outcome = Abort })) ∷ [])) late_decided
unfolding elect_refused after_elect certify_refused certified after_certify path
late_second h r = then (then r (by_elect 1 None)) (by_certify 1 1)

abbrev late_settled : World ℕ
late_settled = world (first_raise ∷ aborted_raise ∷ []) (gateway (Some 1) Follower (share 3000 1) (share 2000 0)) (gateway (Some 1) (Leader (Some 1)) (share 3000 1) (share 2000 0)) (carrier_with 2 (0 ∷ 1 ∷ []) (2 ∷ 2 ∷ []))

late_third : (h : History ℕ) → Reached eqb two_shares h late_decided → Reached eqb two_shares ((((h ++ (stirs 0 (Ok 1) ∷ [])) ++ (delivers 1 (Ok (delivery.Restart 1)) ∷ [])) ++ (delivers 0 (Ok (delivery.Commit 0)) ∷ [])) ++ (delivers 0 (Ok (delivery.Abort 1)) ∷ [])) late_settled
unfolding stir_refused deliver_refused delivered after_deliver path
late_third h r =
    let stirred = then r (by_stir 0 (carrier_with 2 (0 ∷ 1 ∷ []) (0 ∷ 1 ∷ [])) 1 (record { only_the_line = refl; begins_as_before = refl; joined_are_counted = refl }) (sound_from (carrier_with 2 (0 ∷ 1 ∷ []) (0 ∷ 1 ∷ [])) (lit< tt, (lit< tt, tt)) (lit≤ tt, (lit≤ tt, tt)) refl)) in
    then (then (then stirred (by_deliver 1)) (by_deliver 0)) (by_deliver 0)

pub late : Happens dropped_off_late
unfolding certify_refused look_refused look_value
late =
    let refused = then (late_third _ (late_second _ (late_first two_raises both_raised))) (by_certify 0 1) in
    let looked-00 = then refused (by_look 0 0 (Ok 3000) refl) in
    let looked-01 = then looked-00 (by_look 0 1 (Ok 2000) refl) in
    let looked-10 = then looked-01 (by_look 1 0 (Ok 3000) refl) in
    (late_settled, then looked-10 (by_look 1 1 (Ok 2000) refl))

-- the leader drops off early

abbrev other_raise : Message
other_raise = record { precedent = None; change = 1; outcome = Commit }

abbrev early_decided : World ℕ
early_decided = world (first_raise ∷ other_raise ∷ []) (gateway None (Leader (Some 0)) (share 2000 0) (share 2000 0)) (gateway None (Leader (Some 1)) (share 2000 0) (share 2000 0)) (carrier_with 2 [] (0 ∷ 0 ∷ []))

early_first : (h : History ℕ) → Reached eqb two_shares h raised → Reached eqb two_shares ((h ++ (elects 1 None (Ok tt) ∷ [])) ++ (certifies 1 1 (Ok (record { number = 1; outcome = Commit })) ∷ [])) early_decided
unfolding elect_refused after_elect certify_refused certified after_certify path
early_first h r = then (then r (by_elect 1 None)) (by_certify 1 1)

abbrev early_home : World ℕ
early_home = world (first_raise ∷ other_raise ∷ []) (gateway (Some 1) Follower (share 2000 0) (share 3000 1)) (gateway None (Leader (Some 1)) (share 2000 0) (share 2000 0)) (carrier_with 2 (1 ∷ 0 ∷ []) (2 ∷ 0 ∷ []))

early_second : (h : History ℕ) → Reached eqb two_shares h early_decided → Reached eqb two_shares (((h ++ (stirs 0 (Ok 2) ∷ [])) ++ (delivers 0 (Ok (delivery.Commit 1)) ∷ [])) ++ (delivers 0 (Ok (delivery.Discard 0)) ∷ [])) early_home
unfolding stir_refused deliver_refused delivered after_deliver path
early_second h r =
    let stirred = then r (by_stir 0 (carrier_with 2 (1 ∷ 0 ∷ []) (0 ∷ 0 ∷ [])) 2 (record { only_the_line = refl; begins_as_before = refl; joined_are_counted = refl }) (sound_from (carrier_with 2 (1 ∷ 0 ∷ []) (0 ∷ 0 ∷ [])) (lit< tt, (lit< tt, tt)) (lit≤ tt, (lit≤ tt, tt)) refl)) in
    then (then stirred (by_deliver 0)) (by_deliver 0)

abbrev early_settled : World ℕ
early_settled = world (first_raise ∷ other_raise ∷ []) (gateway (Some 1) Follower (share 2000 0) (share 3000 1)) (gateway (Some 1) (Leader (Some 1)) (share 2000 0) (share 3000 1)) (carrier_with 2 (1 ∷ 0 ∷ []) (2 ∷ 2 ∷ []))

early_third : (h : History ℕ) → Reached eqb two_shares h early_home → Reached eqb two_shares (((h ++ (delivers 1 (Ok (delivery.Commit 1)) ∷ [])) ++ (delivers 1 (Ok (delivery.Discard 0)) ∷ [])) ++ (delivers 1 (Ok delivery.Nothing) ∷ [])) early_settled
unfolding deliver_refused delivered after_deliver path
early_third h r = then (then (then r (by_deliver 1)) (by_deliver 1)) (by_deliver 1)

pub early : Happens dropped_off_early
unfolding certify_refused look_refused look_value
early =
    let refused = then (early_third _ (early_second _ (early_first two_raises both_raised))) (by_certify 0 1) in
    let looked-00 = then refused (by_look 0 0 (Ok 2000) refl) in
    let looked-01 = then looked-00 (by_look 0 1 (Ok 3000) refl) in
    let looked-10 = then looked-01 (by_look 1 0 (Ok 2000) refl) in
    (early_settled, then looked-10 (by_look 1 1 (Ok 3000) refl))

-- gateway 1 takes over

abbrev over_recalled : World ℕ
over_recalled = world (first_raise ∷ []) (gateway None Follower (share 2000 0) (share 2000 0)) (gateway None Follower (share 2000 0) (share 2000 0)) (carrier_with 1 [] (0 ∷ 0 ∷ []))

over_first : (h : History ℕ) → Reached eqb two_shares h raised → Reached eqb two_shares ((h ++ (recalls 0 (Ok tt) ∷ [])) ++ (certifies 0 1 (Err NotLeading) ∷ [])) over_recalled
unfolding recall_refused after_recall certify_refused path
over_first h r = then (then r (by_recall 0)) (by_certify 0 1)

abbrev over_decided : World ℕ
over_decided = world (first_raise ∷ aborted_raise ∷ []) (gateway None Follower (share 2000 0) (share 2000 0)) (gateway None (Leader (Some 1)) (share 2000 0) (share 2000 0)) (carrier_with 2 [] (0 ∷ 0 ∷ []))

over_second : (h : History ℕ) → Reached eqb two_shares h over_recalled → Reached eqb two_shares (((h ++ (elects 1 (Some 0) (Ok tt) ∷ [])) ++ (certifies 1 1 (Ok (record { number = 1; outcome = Abort })) ∷ [])) ++ (certifies 1 1 (Err AlreadyDecided) ∷ [])) over_decided
unfolding elect_refused after_elect certify_refused certified after_certify path
over_second h r = then (then (then r (by_elect 1 (Some 0))) (by_certify 1 1)) (by_certify 1 1)

abbrev over_settled : World ℕ
over_settled = world (first_raise ∷ aborted_raise ∷ []) (gateway None Follower (share 2000 0) (share 2000 0)) (gateway (Some 1) (Leader (Some 1)) (share 3000 1) (share 2000 0)) (carrier_with 2 (1 ∷ 0 ∷ 1 ∷ []) (0 ∷ 3 ∷ []))

over_third : (h : History ℕ) → Reached eqb two_shares h over_decided → Reached eqb two_shares ((((h ++ (stirs 0 (Ok 3) ∷ [])) ++ (delivers 1 (Ok (delivery.Discard 1)) ∷ [])) ++ (delivers 1 (Ok (delivery.Commit 0)) ∷ [])) ++ (delivers 1 (Ok (delivery.Restart 1)) ∷ [])) over_settled
unfolding stir_refused deliver_refused delivered after_deliver path
over_third h r =
    let stirred = then r (by_stir 0 (carrier_with 2 (1 ∷ 0 ∷ 1 ∷ []) (0 ∷ 0 ∷ [])) 3 (record { only_the_line = refl; begins_as_before = refl; joined_are_counted = refl }) (sound_from (carrier_with 2 (1 ∷ 0 ∷ 1 ∷ []) (0 ∷ 0 ∷ [])) (lit< tt, (lit< tt, (lit< tt, tt))) (lit≤ tt, (lit≤ tt, tt)) refl)) in
    then (then (then stirred (by_deliver 1)) (by_deliver 1)) (by_deliver 1)

pub over : Happens taken_over
unfolding look_refused look_value
over =
    let looked-10 = then (over_third _ (over_second _ (over_first two_raises both_raised))) (by_look 1 0 (Ok 3000) refl) in
    (over_settled, then looked-10 (by_look 1 1 (Ok 2000) refl))
