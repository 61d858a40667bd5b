-- What becomes of the divider, and of marks and draws, in the old chip's fields. Assumes nothing.
--     refused_at, numbers_at  what the definitions of an opening stand for
--     tx_divides, rx_divides  nothing that is done to a half changes it
--     tx_opens, rx_opens      an opening leaves what the definitions store for its one rate
--     tx_settles, rx_settles  so do its puts
--     tx_handles, rx_handles  a reset ends what the half was busy with, and a start draws
--     tx_halts                a stop puts 0 into start, and touches nothing else
use Rattle.std.proofs.Common.{◌≡◌, ℕ, Some, None, Option, refl, ap, ◌∙◌, sym, subst, [], ◌∷◌}
use Rattle.std.proofs.Math.Nat.{mod-eq_of_lt}
use Rattle.std.proofs.lemmas.Option.{none-some}
use Rattle.dividers.specs.declared.ConfigError.{ConfigError}
use Rattle.dividers.specs.declared.DividerRange.{DividerRange}
use Rattle.dividers.specs.Answers.{eight_bit_range}
use Rattle.fields.specs.declared.CommonField.{CommonField}
use Rattle.fields.specs.declared.RxField.{RxField}
use Rattle.fields.specs.declared.TxField.{TxField}
use Rattle.fields.specs.declared.TxField.TheVariants.{OldTxStart}
use Rattle.blocks.specs.Half.{Half}
use Rattle.old_setups.specs.declared.ClockNumbers.{ClockNumbers}
use Rattle.old_setups.specs.declared.Config.{Config}
use Rattle.old_setups.specs.declared.UnitNumbers.{UnitNumbers}
use Rattle.old_setups.specs.Configs.{clock_numbers, refusal_of}
use Rattle.old_setups.specs.Fit.{ClockNumbersFit}
use Rattle.old_setups.specs.Units.{numbers_of}
use Rattle.old_setups.proofs.Fit.{accepted_fit}
use Rattle.chips.specs.Dividers.{Divides}
use Rattle.chips.specs.Handles.{Halts, Handles}
use Rattle.chips.specs.Puts.{puts_common, puts_rx, puts_tx}
use Rattle.esp32.specs.Chip.{old_at_open, old_opens, old_rx, old_rx_divider, old_tx, old_tx_divider, on_transmit, open_numbers, open_refusal, open_refused, stored, unit_refusal}
use Rattle.old_registers.specs.Rows.{opening}

pub refused_at : (range : DividerRange) (c : Config) → range ≡ eight_bit_range → refusal_of range c ≡ open_refused c
unfolding open_refused
refused_at range c e = ap (λ r. refusal_of r c) e

pub numbers_at : (max : ℕ) (c : Config) → max ≡ 63 → clock_numbers max c ≡ open_numbers c
unfolding open_numbers
numbers_at max c e = ap (λ (m : ℕ). clock_numbers m c) e

pub open_fits : (c : Config) → open_refused c ≡ None → ClockNumbersFit (open_numbers c)
unfolding open_refused open_numbers
open_fits c none = accepted_fit 63 eight_bit_range c refl none

pub tx_divides : (c : CommonField → ℕ) → Divides old_tx unit_refusal None (λ row. old_tx_divider row c)
tx_divides c = record { sets = λ u h none. refl; resets = λ h. refl; starts = λ n h. refl; ends = λ h. refl; stops = λ h. refl }

pub rx_divides : (c : CommonField → ℕ) → Divides old_rx unit_refusal None (λ row. old_rx_divider row c)
rx_divides c = record { sets = λ u h none. refl; resets = λ h. refl; starts = λ n h. refl; ends = λ h. refl; stops = λ h. refl }

passes : (o : Option ConfigError) → on_transmit o ≡ None → o ≡ None
passes (Some e) h = absurd (none-some _ (sym h))
passes None h = refl

tx_stores : (t r : UnitNumbers) (n : ClockNumbers) (h : Half TxField) (c : CommonField → ℕ) → ClockNumbersFit n → old_tx_divider (puts_tx (opening t r n) h).fields (puts_common (opening t r n) c) ≡ stored n
tx_stores t r n h c fit = λ i. record {
  integer = mod-eq_of_lt fit.clkm_div_num i;
  bit = mod-eq_of_lt fit.tx_bck_div_num i;
  fraction = mod-eq_of_lt fit.clkm_div_a i ∷ mod-eq_of_lt fit.clkm_div_b i ∷ [];
}

rx_stores : (t r : UnitNumbers) (n : ClockNumbers) (h : Half RxField) (c : CommonField → ℕ) → ClockNumbersFit n → old_rx_divider (puts_rx (opening t r n) h).fields (puts_common (opening t r n) c) ≡ stored n
rx_stores t r n h c fit = λ i. record {
  integer = mod-eq_of_lt fit.clkm_div_num i;
  bit = mod-eq_of_lt fit.rx_bck_div_num i;
  fraction = mod-eq_of_lt fit.clkm_div_a i ∷ mod-eq_of_lt fit.clkm_div_b i ∷ [];
}

pub tx_opens : (o : Config) (h : Half TxField) (c : CommonField → ℕ) → open_refusal o ≡ None
    → old_tx_divider (old_opens.tx o h).fields (old_opens.common o c) ≡ old_at_open o
tx_opens o h c none =
    tx_stores (numbers_of o.tx_config o.data_format) (numbers_of o.rx_config o.data_format) (open_numbers o) h c (open_fits o (passes _ none))

pub rx_opens : (o : Config) (h : Half RxField) (c : CommonField → ℕ) → open_refusal o ≡ None
    → old_rx_divider (old_opens.rx o h).fields (old_opens.common o c) ≡ old_at_open o
rx_opens o h c none =
    rx_stores (numbers_of o.tx_config o.data_format) (numbers_of o.rx_config o.data_format) (open_numbers o) h c (open_fits o (passes _ none))

pub tx_settles : (t r : UnitNumbers) (n : ClockNumbers) (o : Config) (h g : Half TxField) (c d : CommonField → ℕ) → open_refused o ≡ None → n ≡ open_numbers o
    → g ≡ puts_tx (opening t r n) h → d ≡ puts_common (opening t r n) c → old_tx_divider g.fields d ≡ old_at_open o
tx_settles t r n o h g c d none numbers put shared =
    (λ i. old_tx_divider (put i).fields (shared i)) ∙ tx_stores t r n h c (subst ClockNumbersFit (sym numbers) (open_fits o none)) ∙ ap stored numbers

pub rx_settles : (t r : UnitNumbers) (n : ClockNumbers) (o : Config) (h g : Half RxField) (c d : CommonField → ℕ) → open_refused o ≡ None → n ≡ open_numbers o
    → g ≡ puts_rx (opening t r n) h → d ≡ puts_common (opening t r n) c → old_rx_divider g.fields d ≡ old_at_open o
rx_settles t r n o h g c d none numbers put shared =
    (λ i. old_rx_divider (put i).fields (shared i)) ∙ rx_stores t r n h c (subst ClockNumbersFit (sym numbers) (open_fits o none)) ∙ ap stored numbers

pub tx_handles : Handles old_tx
tx_handles = record { reset_busy = λ h. refl; reset_stale = λ h. refl; reset_draws = λ h k. refl; start_busy = λ n h. refl; start_draws = λ n h k. refl }

pub rx_handles : Handles old_rx
rx_handles = record { reset_busy = λ h. refl; reset_stale = λ h. refl; reset_draws = λ h k. refl; start_busy = λ n h. refl; start_draws = λ n h k. refl }

pub tx_halts : Halts old_tx OldTxStart
tx_halts = record { stopped = λ h. refl; marks = λ h. refl; draws = λ h k. refl }
