-- Each promise is an equation; the rest is said of the definitions by their laws.
-- Assumes nothing.
use Rattle.ground.specs.Lent.{part}
use Rattle.ground.proofs.Outcome.{determined}
use Rattle.text.specs.Text.{shown, emptied, with_byte, with_bytes, decimal_of}
use Rattle.text.specs.Claims.{Claims}
use Rattle.text.proofs.Laws.{is_written, same_size}
use Rattle.text.proofs.Digits.{decimal_length, decimal_value}

pub claims : Claims
claims =
    record {
      begins_text = λ loan bytes. determined (record { loan = loan; bytes = bytes; end = 0 });
      clears_text = λ t. determined (emptied t);
      writes_byte = λ t b. determined (with_byte t b);
      writes_word = λ t letters. determined (with_bytes t letters);
      writes_decimal = λ t n. determined (with_bytes t (decimal_of n));
      lends_text = λ t. determined (shown t);
      lends_first = λ l size. determined (part l 0 size);
      is_written = is_written;
      size = same_size;
      digits = decimal_length;
      value = decimal_value;
    }
