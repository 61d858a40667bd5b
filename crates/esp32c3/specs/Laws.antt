-- What becomes of the divider, and of marks and draws, in the new chip's fields. Assumes nothing.
--     tx_divides, rx_divides  of all that is done to a half, only an accepted set-up changes it, and to what the definitions store
--     tx_opens, rx_opens      an opening leaves those of its set-up
--     tx_settles, rx_settles  the puts of a set-up that passes leave what the definitions store for it
--     tx_handles, rx_handles  a reset ends what the half was busy with, and a start draws
--     tx_halts                a stop puts 0 into start, and touches nothing else
use Rattle.std.proofs.Common.{◌≡◌, ℕ, ◌%◌, Bool, true, false, Some, None, Option, refl, ap, ◌∙◌, sym, [], ◌∷◌}
use Rattle.std.proofs.Math.Nat.{mod-eq_of_lt}
use Rattle.std.proofs.lemmas.Option.{none-some}
use Rattle.dividers.specs.declared.ConfigError.{ConfigError}
use Rattle.dividers.specs.declared.DividerRange.{DividerRange}
use Rattle.dividers.specs.Answers.{eight_bit_range}
use Rattle.fields.specs.declared.CommonField.{CommonField}
use Rattle.fields.specs.declared.RxField.{RxField}
use Rattle.fields.specs.declared.Side.{Side}
use Rattle.fields.specs.declared.TxField.{TxField}
use Rattle.fields.specs.declared.TxField.TheVariants.{NewTxStart}
use Rattle.blocks.specs.Half.{Half}
use Rattle.setups.specs.declared.esp32c3.Config.{Config}
use Rattle.setups.specs.declared.esp32c3.UnitConfig.{UnitConfig}
use Rattle.setups.specs.declared.esp32c3.UnitNumbers.{UnitNumbers}
use Rattle.setups.specs.Check.{numbers_of, refusal_of}
use Rattle.setups.specs.Fit.{NumbersFit}
use Rattle.setups.proofs.Fit.{accepted_fit}
use Rattle.chips.specs.Dividers.{Divides}
use Rattle.chips.specs.Handles.{Halts, Handles}
use Rattle.chips.specs.Puts.{puts_rx, puts_tx}
use Rattle.esp32c3.specs.Chip.{new_divider, new_open_refusal, new_opens, new_refusal, new_rx, new_rx_at_open, new_rx_divider, new_tx, new_tx_at_open, new_tx_divider, on_side, stored, unit_numbers, unit_refusal}
use Rattle.new_registers.specs.Rows.{bit, rx_set, tx_set}

-- what the two stand for
pub refusal_at : (max : ℕ) (range : DividerRange) (u : UnitConfig) → max ≡ 511 → range ≡ eight_bit_range → refusal_of max range u ≡ unit_refusal u
unfolding unit_refusal
refusal_at max range u e d = λ i. refusal_of (e i) (d i) u

pub numbers_at : (max : ℕ) (u : UnitConfig) → max ≡ 511 → numbers_of max u ≡ unit_numbers u
unfolding unit_numbers
numbers_at max u e = ap (λ (m : ℕ). numbers_of m u) e

pub unit_fits : (u : UnitConfig) → unit_refusal u ≡ None → NumbersFit (unit_numbers u)
unfolding unit_refusal unit_numbers
unit_fits u none = accepted_fit 511 eight_bit_range u refl none

bit_fits : (b : Bool) → bit b % 2 ≡ bit b
bit_fits true = refl
bit_fits false = refl

tx_stores : (n : UnitNumbers) (h : Half TxField) (c : CommonField → ℕ) → NumbersFit n → new_tx_divider (puts_tx (tx_set n) h).fields c ≡ stored n
tx_stores n h c fit = λ i. record {
  integer = mod-eq_of_lt fit.clkm_div_num.0 i;
  bit = mod-eq_of_lt fit.bck_div_num.0 i;
  fraction = mod-eq_of_lt fit.clkm_div_x.0 i ∷ mod-eq_of_lt fit.clkm_div_y.0 i ∷ mod-eq_of_lt fit.clkm_div_z.0 i ∷ bit_fits n.clkm_div_yn1 i ∷ [];
}

rx_stores : (n : UnitNumbers) (h : Half RxField) (c : CommonField → ℕ) → NumbersFit n → new_rx_divider (puts_rx (rx_set n) h).fields c ≡ stored n
rx_stores n h c fit = λ i. record {
  integer = mod-eq_of_lt fit.clkm_div_num.1 i;
  bit = mod-eq_of_lt fit.bck_div_num.1 i;
  fraction = mod-eq_of_lt fit.clkm_div_x.1 i ∷ mod-eq_of_lt fit.clkm_div_y.1 i ∷ mod-eq_of_lt fit.clkm_div_z.1 i ∷ bit_fits n.clkm_div_yn1 i ∷ [];
}

pub tx_divides : (c : CommonField → ℕ) → Divides new_tx new_refusal (Some new_divider) (λ row. new_tx_divider row c)
tx_divides c = record {
  sets = λ u h none. tx_stores (unit_numbers u.0) h c (unit_fits u.0 none);
  resets = λ h. refl;
  starts = λ n h. refl;
  ends = λ h. refl;
  stops = λ h. refl;
}

pub rx_divides : (c : CommonField → ℕ) → Divides new_rx new_refusal (Some new_divider) (λ row. new_rx_divider row c)
rx_divides c = record {
  sets = λ u h none. rx_stores (unit_numbers u.0) h c (unit_fits u.0 none);
  resets = λ h. refl;
  starts = λ n h. refl;
  ends = λ h. refl;
  stops = λ h. refl;
}

both_pass : (s : Side) (mine : Option ConfigError) (next : Option (Side × ConfigError)) → on_side s mine next ≡ None → (mine ≡ None) × (next ≡ None)
both_pass s (Some e) next h = absurd (none-some _ (sym h))
both_pass s None next h = (refl, h)

pub tx_opens : (o : Config) (h : Half TxField) (c : CommonField → ℕ) → new_open_refusal o ≡ None
    → new_tx_divider (new_opens.tx o h).fields (new_opens.common o c) ≡ new_tx_at_open o
tx_opens o h c none = tx_stores (unit_numbers o.tx_config) h c (unit_fits o.tx_config (both_pass _ _ _ none).0)

pub rx_opens : (o : Config) (h : Half RxField) (c : CommonField → ℕ) → new_open_refusal o ≡ None
    → new_rx_divider (new_opens.rx o h).fields (new_opens.common o c) ≡ new_rx_at_open o
rx_opens o h c none =
    rx_stores (unit_numbers o.rx_config) h c (unit_fits o.rx_config (both_pass _ _ _ (both_pass _ _ _ none).1).0)

pub tx_settles : (u : UnitConfig) (n : UnitNumbers) (h g : Half TxField) (c : CommonField → ℕ) → unit_refusal u ≡ None → n ≡ unit_numbers u → g ≡ puts_tx (tx_set n) h
    → new_tx_divider g.fields c ≡ stored (unit_numbers u)
tx_settles u n h g c none numbers put =
    ap (λ k. new_tx_divider k.fields c) (put ∙ ap (λ m. puts_tx (tx_set m) h) numbers) ∙ tx_stores (unit_numbers u) h c (unit_fits u none)

pub rx_settles : (u : UnitConfig) (n : UnitNumbers) (h g : Half RxField) (c : CommonField → ℕ) → unit_refusal u ≡ None → n ≡ unit_numbers u → g ≡ puts_rx (rx_set n) h
    → new_rx_divider g.fields c ≡ stored (unit_numbers u)
rx_settles u n h g c none numbers put =
    ap (λ k. new_rx_divider k.fields c) (put ∙ ap (λ m. puts_rx (rx_set m) h) numbers) ∙ rx_stores (unit_numbers u) h c (unit_fits u none)

pub tx_handles : Handles new_tx
tx_handles = record { reset_busy = λ h. refl; reset_stale = λ h. refl; reset_draws = λ h k. refl; start_busy = λ n h. refl; start_draws = λ n h k. refl }

pub rx_handles : Handles new_rx
rx_handles = record { reset_busy = λ h. refl; reset_stale = λ h. refl; reset_draws = λ h k. refl; start_busy = λ n h. refl; start_draws = λ n h k. refl }

pub tx_halts : Halts new_tx NewTxStart
tx_halts = record { stopped = λ h. refl; marks = λ h. refl; draws = λ h k. refl }
