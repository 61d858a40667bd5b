-- The rows of the old chip's set-ups are read as those set-ups. Assumes nothing.
use Rattle.std.proofs.Common.{◌≡◌, ◌↔◌, ℕ, zero, suc, Bool, List, [], ◌∷◌, ◌++◌, length, Some, None, Option, IfSome, refl, arith}
use Rattle.std.specs.List.{slice_get}
use Rattle.old_setups.specs.declared.Channels.{Channels}
use Rattle.old_setups.specs.declared.Channels.TheVariants.{Stereo, Mono, Left, Right}
use Rattle.old_setups.specs.declared.Config.{Config}
use Rattle.old_setups.specs.declared.DataFormat.{DataFormat}
use Rattle.old_setups.specs.declared.DataFormat.TheVariants.{Data32Channel32, Data16Channel16}
use Rattle.old_setups.specs.declared.UnitConfig.{UnitConfig}
use Rattle.old_setups.specs.declared.WsWidth.{WsWidth}
use Rattle.old_setups.specs.declared.WsWidth.TheVariants.{HalfFrame, Bit}
use Rattle.setups.specs.declared.Polarity.{Polarity}
use Rattle.coded.specs.Places.{flag_place, flags, polarities, polarity_place}
use Rattle.coded.specs.OldRows.{both_from, both_in, both_row, channels, channels_place, format_place, formats, unit_from, unit_in, unit_row, width_place, widths}
use Rattle.coded.proofs.Placed.{flag_placed, flag_read, longer, polarity_placed, polarity_read}

channels_read : (c : Channels) → slice_get channels (channels_place c) ≡ Some c
channels_read Stereo = refl
channels_read Mono = refl
channels_read Left = refl
channels_read Right = refl

channels_placed : (n : ℕ) → IfSome (slice_get channels n) (λ c. n ≡ channels_place c)
channels_placed zero = refl
channels_placed (suc zero) = refl
channels_placed (suc (suc zero)) = refl
channels_placed (suc (suc (suc zero))) = refl
channels_placed (suc (suc (suc (suc n)))) = tt

width_read : (w : WsWidth) → slice_get widths (width_place w) ≡ Some w
width_read HalfFrame = refl
width_read Bit = refl

width_placed : (n : ℕ) → IfSome (slice_get widths n) (λ w. n ≡ width_place w)
width_placed zero = refl
width_placed (suc zero) = refl
width_placed (suc (suc n)) = tt

format_read : (f : DataFormat) → slice_get formats (format_place f) ≡ Some f
format_read Data32Channel32 = refl
format_read Data16Channel16 = refl

format_placed : (n : ℕ) → IfSome (slice_get formats n) (λ f. n ≡ format_place f)
format_placed zero = refl
format_placed (suc zero) = refl
format_placed (suc (suc n)) = tt

unit_read : (u : UnitConfig) → unit_in (unit_row u) ≡ Some u
unit_read u = rw (channels_read u.channels, width_read u.ws_width, polarity_read u.ws_polarity, flag_read u.msb_shift) refl

both_read : (c : Config) → both_in (both_row c) ≡ Some c
both_read c = rw (unit_read c.tx_config, unit_read c.rx_config, format_read c.data_format) refl

-- the numbers of a unit that is read are its own
unit_own_by : (a b c d : ℕ) (channels : Option Channels) (width : Option WsWidth) (polarity : Option Polarity) (shift : Option Bool)
    → IfSome channels (λ x. a ≡ channels_place x) → IfSome width (λ x. b ≡ width_place x) → IfSome polarity (λ x. c ≡ polarity_place x) → IfSome shift (λ x. d ≡ flag_place x)
    → IfSome (unit_from channels width polarity shift) (λ u. (a ∷ b ∷ c ∷ d ∷ []) ≡ unit_row u)
unit_own_by a b c d None width polarity shift ha hb hc hd = tt
unit_own_by a b c d (Some x) None polarity shift ha hb hc hd = tt
unit_own_by a b c d (Some x) (Some y) None shift ha hb hc hd = tt
unit_own_by a b c d (Some x) (Some y) (Some z) None ha hb hc hd = tt
unit_own_by a b c d (Some x) (Some y) (Some z) (Some w) ha hb hc hd = rw (ha, hb, hc, hd) refl

unit_own : (row : List ℕ) → IfSome (unit_in row) (λ u. row ≡ unit_row u)
unit_own [] = tt
unit_own (a ∷ []) = tt
unit_own (a ∷ b ∷ []) = tt
unit_own (a ∷ b ∷ c ∷ []) = tt
unit_own (a ∷ b ∷ c ∷ d ∷ []) =
    unit_own_by a b c d (slice_get channels a) (slice_get widths b) (slice_get polarities c) (slice_get flags d)
    (channels_placed a) (width_placed b) (polarity_placed c) (flag_placed d)
unit_own (a ∷ b ∷ c ∷ d ∷ e ∷ row) = rw (longer (length (a ∷ b ∷ c ∷ d ∷ e ∷ row)) 4 (omega arith)) tt

both_own_by : (rate n : ℕ) (tx_row rx_row : List ℕ) (format : Option DataFormat) (tx rx : Option UnitConfig)
    → IfSome format (λ f. n ≡ format_place f) → IfSome tx (λ u. tx_row ≡ unit_row u) → IfSome rx (λ u. rx_row ≡ unit_row u)
    → IfSome (both_from rate format tx rx) (λ c. (rate ∷ n ∷ (tx_row ++ rx_row)) ≡ both_row c)
both_own_by rate n tx_row rx_row format None rx hf ht hr = tt
both_own_by rate n tx_row rx_row format (Some t) None hf ht hr = tt
both_own_by rate n tx_row rx_row None (Some t) (Some r) hf ht hr = tt
both_own_by rate n tx_row rx_row (Some f) (Some t) (Some r) hf ht hr = rw (hf, ht, hr) refl

both_own : (row : List ℕ) → IfSome (both_in row) (λ c. row ≡ both_row c)
both_own [] = tt
both_own (r ∷ []) = tt
both_own (r ∷ n ∷ []) = tt
both_own (r ∷ n ∷ a ∷ []) = tt
both_own (r ∷ n ∷ a ∷ b ∷ []) = tt
both_own (r ∷ n ∷ a ∷ b ∷ c ∷ []) = tt
both_own (r ∷ n ∷ a ∷ b ∷ c ∷ d ∷ []) = tt
both_own (r ∷ n ∷ a ∷ b ∷ c ∷ d ∷ e ∷ []) = tt
both_own (r ∷ n ∷ a ∷ b ∷ c ∷ d ∷ e ∷ f ∷ []) = tt
both_own (r ∷ n ∷ a ∷ b ∷ c ∷ d ∷ e ∷ f ∷ g ∷ []) = tt
both_own (r ∷ n ∷ a ∷ b ∷ c ∷ d ∷ e ∷ f ∷ g ∷ h ∷ []) =
    let tx_row : List ℕ = a ∷ b ∷ c ∷ d ∷ [] in
    let rx_row : List ℕ = e ∷ f ∷ g ∷ h ∷ [] in
    both_own_by r n tx_row rx_row (slice_get formats n) (unit_in tx_row) (unit_in rx_row) (format_placed n) (unit_own tx_row) (unit_own rx_row)
both_own (r ∷ n ∷ a ∷ b ∷ c ∷ d ∷ e ∷ f ∷ g ∷ h ∷ i ∷ row) =
    rw (longer (length (r ∷ n ∷ a ∷ b ∷ c ∷ d ∷ e ∷ f ∷ g ∷ h ∷ i ∷ row)) 10 (omega arith)) tt

own : {X : Type 0} (read : List ℕ → Option X) (row_of : X → List ℕ) (row : List ℕ) (x : X) → IfSome (read row) (λ v. row ≡ row_of v) → read row ≡ Some x → row ≡ row_of x
own read row_of row x h e = rw e at h

pub reads_unit : (row : List ℕ) (u : UnitConfig) → (row ≡ unit_row u) ↔ (unit_in row ≡ Some u)
reads_unit row u = ((λ e. rw e (unit_read u)), own unit_in unit_row row u (unit_own row))

pub reads_both : (row : List ℕ) (c : Config) → (row ≡ both_row c) ↔ (both_in row ≡ Some c)
reads_both row c = ((λ e. rw e (both_read c)), own both_in both_row row c (both_own row))
