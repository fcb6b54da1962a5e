-- Every log is sound: the proof that a carrier owes, from what its log keeps.
use Rattle.std.proofs.Common.{refl}
use Rattle.std.proofs.lemmas.List.{length-take-le}
use Rattle.carrier.specs.Meaning.{Sound}
use Rattle.carrier.specs.declared.log.Log.{Log}
use Rattle.carrier.specs.Logs.{log_meaning}

pub log_sound : (l : Log) → Sound (log_meaning l)
log_sound l =
    record {
      line_below_count = l.line_below_count;
      place_within_line = λ g h. rw (length-take-le l.line.len l.line.memory.now l.line_within_memory) (l.places_within_line g);
      place_for_each_gateway = refl;
    }
