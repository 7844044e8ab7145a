-- The laws of fillings, and of what stays, gathered. Assumes nothing.
use Rattle.fillings.specs.Fillings.{FillingLaws, RecordLaws, StayLaws}
use Rattle.fillings.proofs.Fillings.{meaning, two_fillings, published, read_between}
use Rattle.fillings.proofs.Realising.{realised, for_new}
use Rattle.fillings.proofs.Staying.{valid_stays, invalid_stays, new_hops}
use Rattle.fillings.proofs.Records.{plus_is, not_plus_is, by_number}

pub filling_laws : FillingLaws
filling_laws =
    record {
      meaning = meaning;
      two_fillings = two_fillings;
      published = λ hop f path role. published hop path role f;
      read_between = read_between;
      by_number = by_number;
    }

pub record_laws : RecordLaws
record_laws = record { realised = realised; for_new = for_new }

pub stay_laws : StayLaws
stay_laws =
    record { valid_stays = valid_stays; invalid_stays = invalid_stays; plus_is = plus_is; not_plus_is = not_plus_is; new_hops = new_hops }
