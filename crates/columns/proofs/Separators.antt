-- What may stand between cells.
use Rattle.std.proofs.Common.{refl}
use Rattle.run_settings.specs.TableSettings.{byte_of}
use Rattle.run_settings.specs.declared.table.Separator.{Separator}
use Rattle.run_settings.specs.declared.table.Separator.TheVariants as separator
use Rattle.columns.specs.TextRows.{IsSeparator}

-- a separator is no quote, line end, digit and minus sign
pub separates : (s : Separator) → IsSeparator (byte_of s)
separates separator.Comma = record {
  no_quote = refl;
  no_return = refl;
  no_feed = refl;
  no_digit = refl;
  no_minus = refl;
}
separates separator.Semicolon = record {
  no_quote = refl;
  no_return = refl;
  no_feed = refl;
  no_digit = refl;
  no_minus = refl;
}
separates separator.Bar = record { no_quote = refl; no_return = refl; no_feed = refl; no_digit = refl; no_minus = refl }
separates separator.Tab = record { no_quote = refl; no_return = refl; no_feed = refl; no_digit = refl; no_minus = refl }
