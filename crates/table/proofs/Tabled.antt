-- What is stated of packed tables holds. Assumes nothing.
use Rattle.table.specs.Laws.{TableLaws}
use Rattle.table.proofs.Sounds.{count_is, body_is, head_is, start_is, slot_count_is, tail_is, part_is}
use Rattle.table.proofs.Exact.{decode_encode, length_encode, encode_passes, sound_passes, passes_sound}

pub table_laws : TableLaws
table_laws =
    record {
      exact = λ h t. record { passed_sound = passes_sound h t; sound_passes = sound_passes h t };
      written = λ h t size es w f.
          record {
            read_back = decode_encode h t size es w f;
            long = length_encode h t size es w f;
            passes = encode_passes h t size es w f;
          };
      says = λ h t ws e.
          let s = passes_sound h t ws e in
          record {
            entries = count_is h t ws s;
            body_words = body_is h t ws s;
            head = head_is h t ws s;
            start = start_is h t ws s;
            count = slot_count_is h t ws s;
            tail = tail_is h t ws s;
            body = part_is h t ws s;
          };
    }
