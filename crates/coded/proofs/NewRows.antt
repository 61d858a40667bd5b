-- A unit of the new chip is read from its rows, and from no other. Assumes nothing.
use Rattle.std.proofs.Common.{◌≡◌, ◌↔◌, ℕ, zero, suc, ◌<◌, ◌^◌, Bool, true, false, cond, ◌&&◌, eqb, nat_lt, List, [], ◌∷◌, length, Some, None, Option, IfSome, refl, arith}
use Rattle.std.proofs.lemmas.Bool.{and_parts, eqb-true, lt-ltb, ltb-true}
use Rattle.std.specs.Option.{option_map}
use Rattle.std.specs.List.{slice_get}
use Rattle.setups.specs.declared.esp32c3.Channels.{Channels}
use Rattle.setups.specs.declared.esp32c3.DataFormat.{DataFormat}
use Rattle.setups.specs.declared.esp32c3.DataFormat.TheVariants.{Data32Channel32, Data32Channel24, Data32Channel16, Data32Channel8, Data16Channel16, Data16Channel8, Data8Channel8}
use Rattle.setups.specs.declared.esp32c3.UnitConfig.{UnitConfig}
use Rattle.setups.specs.declared.esp32c3.WsWidth.{WsWidth}
use Rattle.setups.specs.declared.esp32c3.WsWidth.TheVariants.{HalfFrame, OneChannel, Bit, Bits}
use Rattle.setups.specs.declared.BitOrder.{BitOrder}
use Rattle.setups.specs.declared.BitOrder.TheVariants.{MsbFirst, LsbFirst}
use Rattle.setups.specs.declared.Endianness.{Endianness}
use Rattle.setups.specs.declared.Endianness.TheVariants.{LittleEndian, BigEndian}
use Rattle.setups.specs.Channels.{channels_of}
use Rattle.setups.specs.declared.Polarity.{Polarity}
use Rattle.coded.specs.Places.{flag_place, flags, polarities, polarity_place}
use Rattle.coded.specs.NewRows.{IsRowOf, channels_at, endianness_place, endiannesses, fill_at, fill_number, filled_number, format_place, formats, order_place, orders, unit_from, unit_in, unit_row, width_at, width_bits, width_place}
use Rattle.coded.proofs.Placed.{flag_placed, flag_read, longer, polarity_placed, polarity_read}

format_read : (f : DataFormat) → slice_get formats (format_place f) ≡ Some f
format_read Data32Channel32 = refl
format_read Data32Channel24 = refl
format_read Data32Channel16 = refl
format_read Data32Channel8 = refl
format_read Data16Channel16 = refl
format_read Data16Channel8 = refl
format_read Data8Channel8 = refl

format_placed : (n : ℕ) → IfSome (slice_get formats n) (λ f. n ≡ format_place f)
format_placed zero = refl
format_placed (suc zero) = refl
format_placed (suc (suc zero)) = refl
format_placed (suc (suc (suc zero))) = refl
format_placed (suc (suc (suc (suc zero)))) = refl
format_placed (suc (suc (suc (suc (suc zero))))) = refl
format_placed (suc (suc (suc (suc (suc (suc zero)))))) = refl
format_placed (suc (suc (suc (suc (suc (suc (suc n))))))) = tt

endianness_read : (e : Endianness) → slice_get endiannesses (endianness_place e) ≡ Some e
endianness_read LittleEndian = refl
endianness_read BigEndian = refl

endianness_placed : (n : ℕ) → IfSome (slice_get endiannesses n) (λ e. n ≡ endianness_place e)
endianness_placed zero = refl
endianness_placed (suc zero) = refl
endianness_placed (suc (suc n)) = tt

order_read : (o : BitOrder) → slice_get orders (order_place o) ≡ Some o
order_read MsbFirst = refl
order_read LsbFirst = refl

order_placed : (n : ℕ) → IfSome (slice_get orders n) (λ o. n ≡ order_place o)
order_placed zero = refl
order_placed (suc zero) = refl
order_placed (suc (suc n)) = tt

-- the fill and its two numbers
record IsFill (filled fill : ℕ) (f : Option ℕ) : Type 0 where
  filled_is : filled ≡ filled_number f
  fill_is : fill ≡ fill_number f

fill_read : (f : Option ℕ) → fill_at (filled_number f) (fill_number f) ≡ Some f
fill_read None = refl
fill_read (Some n) = refl

no_fill : (fill : ℕ) (t : Bool) → eqb fill 0 ≡ t → IfSome (cond t (Some None) None) (λ f. IsFill 0 fill f)
no_fill fill false e = tt
no_fill fill true e = record { filled_is = refl; fill_is = eqb-true fill 0 e }

fill_own : (filled fill : ℕ) → IfSome (fill_at filled fill) (λ f. IsFill filled fill f)
fill_own zero fill = no_fill fill (eqb fill 0) refl
fill_own (suc zero) fill = record { filled_is = refl; fill_is = refl }
fill_own (suc (suc n)) fill = rw (longer (suc (suc n)) 1 (omega arith), longer (suc (suc n)) 0 (omega arith)) tt

-- the width and its two numbers
record IsWidth (place bits : ℕ) (w : WsWidth) : Type 0 where
  place_is : place ≡ width_place w
  bits_is : bits ≡ width_bits w
  fits : width_bits w < 2 ^ 16

width_read : (w : WsWidth) → width_bits w < 2 ^ 16 → width_at (width_place w) (width_bits w) ≡ Some w
width_read HalfFrame h = refl
width_read OneChannel h = refl
width_read Bit h = refl
width_read (Bits n) h = rw (lt-ltb n (2 ^ 16) h) refl

width_of_bits : (bits : ℕ) (t : Bool) → nat_lt bits (2 ^ 16) ≡ t → IfSome (cond t (Some (Bits bits)) None) (λ w. IsWidth 3 bits w)
width_of_bits bits false e = tt
width_of_bits bits true e = record { place_is = refl; bits_is = refl; fits = ltb-true bits (2 ^ 16) e }

width_named : (place bits : ℕ) (w : WsWidth) → place ≡ width_place w → width_bits w ≡ 0 → (t : Bool) → eqb bits 0 ≡ t
    → IfSome (cond t (Some w) None) (λ w. IsWidth place bits w)
width_named place bits w p z false e = tt
width_named place bits w p z true e = let none = eqb-true bits 0 e in record { place_is = p; bits_is = omega (arith, none, z); fits = omega (arith, z) }

no_width : (t : Bool) (P : WsWidth → Type 0) → IfSome (cond t None None) P
no_width false P = tt
no_width true P = tt

width_own : (place bits : ℕ) → IfSome (width_at place bits) (λ w. IsWidth place bits w)
width_own zero bits = width_named 0 bits HalfFrame refl refl (eqb bits 0) refl
width_own (suc zero) bits = width_named 1 bits OneChannel refl refl (eqb bits 0) refl
width_own (suc (suc zero)) bits = width_named 2 bits Bit refl refl (eqb bits 0) refl
width_own (suc (suc (suc zero))) bits = width_of_bits bits (nat_lt bits (2 ^ 16)) refl
width_own (suc (suc (suc (suc n)))) bits =
    rw (longer (suc (suc (suc (suc n)))) 3 (omega arith)) (no_width (eqb bits 0) (λ w. IsWidth (suc (suc (suc (suc n)))) bits w))

-- the channels and their four numbers
record AreChannels (count mask filled fill : ℕ) (c : Channels) : Type 0 where
  count_is : count ≡ c.count
  filled_is : filled ≡ filled_number c.fill
  fill_is : fill ≡ fill_number c.fill
  made : channels_of c.count mask c.fill ≡ c
  count_fits : c.count < 2 ^ 8
  mask_fits : mask < 2 ^ 16

channels_read : (mask : ℕ) (c : Channels) → channels_of c.count mask c.fill ≡ c → c.count < 2 ^ 8 → mask < 2 ^ 16
    → channels_at c.count mask (filled_number c.fill) (fill_number c.fill) ≡ Some c
channels_read mask c made count fits =
    rw (lt-ltb c.count (2 ^ 8) count, lt-ltb mask (2 ^ 16) fits, fill_read c.fill, made) refl

channels_by : (count mask filled fill : ℕ) (t : Bool) → (nat_lt count (2 ^ 8) && nat_lt mask (2 ^ 16)) ≡ t
    → (f : Option (Option ℕ)) → IfSome f (λ v. IsFill filled fill v)
    → IfSome (cond t (option_map (channels_of count mask) f) None) (λ c. AreChannels count mask filled fill c)
channels_by count mask filled fill false e f h = tt
channels_by count mask filled fill true e None h = tt
channels_by count mask filled fill true e (Some v) h =
    let parts = and_parts (nat_lt count (2 ^ 8)) (nat_lt mask (2 ^ 16)) e in
    record {
      count_is = refl;
      filled_is = h.filled_is;
      fill_is = h.fill_is;
      made = refl;
      count_fits = ltb-true count (2 ^ 8) parts.0;
      mask_fits = ltb-true mask (2 ^ 16) parts.1;
    }

channels_own : (count mask filled fill : ℕ) → IfSome (channels_at count mask filled fill) (λ c. AreChannels count mask filled fill c)
channels_own count mask filled fill =
    channels_by count mask filled fill (nat_lt count (2 ^ 8) && nat_lt mask (2 ^ 16)) refl (fill_at filled fill) (fill_own filled fill)

unit_read : (mask : ℕ) (u : UnitConfig) → channels_of u.channels.count mask u.channels.fill ≡ u.channels → u.channels.count < 2 ^ 8
    → mask < 2 ^ 16 → width_bits u.ws_width < 2 ^ 16 → unit_in (unit_row mask u) ≡ Some u
unit_read mask u made count fits bits =
    rw (
      channels_read mask u.channels made count fits,
      format_read u.data_format,
      width_read u.ws_width bits,
      polarity_read u.ws_polarity,
      flag_read u.msb_shift,
      endianness_read u.endianness,
      order_read u.bit_order,
    ) refl

unit_own_by : (rate count mask filled fill n place bits p s e o : ℕ)
    → (channels : Option Channels) → IfSome channels (λ x. AreChannels count mask filled fill x)
    → (format : Option DataFormat) → IfSome format (λ x. n ≡ format_place x)
    → (width : Option WsWidth) → IfSome width (λ x. IsWidth place bits x)
    → (polarity : Option Polarity) → IfSome polarity (λ x. p ≡ polarity_place x)
    → (shift : Option Bool) → IfSome shift (λ x. s ≡ flag_place x)
    → (endianness : Option Endianness) → IfSome endianness (λ x. e ≡ endianness_place x)
    → (order : Option BitOrder) → IfSome order (λ x. o ≡ order_place x)
    → IfSome (unit_from rate channels format width polarity shift endianness order)
    (λ u. IsRowOf (rate ∷ count ∷ mask ∷ filled ∷ fill ∷ n ∷ place ∷ bits ∷ p ∷ s ∷ e ∷ o ∷ []) u)
unit_own_by rate count mask filled fill n place bits p s e o None hc format hf width hw polarity hp shift hs endianness he order ho = tt
unit_own_by rate count mask filled fill n place bits p s e o (Some c) hc None hf width hw polarity hp shift hs endianness he order ho = tt
unit_own_by rate count mask filled fill n place bits p s e o (Some c) hc (Some f) hf None hw polarity hp shift hs endianness he order ho = tt
unit_own_by rate count mask filled fill n place bits p s e o (Some c) hc (Some f) hf (Some w) hw None hp shift hs endianness he order ho = tt
unit_own_by rate count mask filled fill n place bits p s e o (Some c) hc (Some f) hf (Some w) hw (Some x) hp None hs endianness he order ho = tt
unit_own_by rate count mask filled fill n place bits p s e o (Some c) hc (Some f) hf (Some w) hw (Some x) hp (Some y) hs None he order ho = tt
unit_own_by rate count mask filled fill n place bits p s e o (Some c) hc (Some f) hf (Some w) hw (Some x) hp (Some y) hs (Some z) he None ho = tt
unit_own_by rate count mask filled fill n place bits p s e o (Some c) hc (Some f) hf (Some w) hw (Some x) hp (Some y) hs (Some z) he (Some v) ho = record {
  mask = mask;
  numbers = rw (hc.count_is, hc.filled_is, hc.fill_is, hf, hw.place_is, hw.bits_is, hp, hs, he, ho) refl;
  made = hc.made;
  count_fits = hc.count_fits;
  mask_fits = hc.mask_fits;
  bits_fit = hw.fits;
}

unit_own : (row : List ℕ) → IfSome (unit_in row) (λ u. IsRowOf row u)
unit_own [] = tt
unit_own (r ∷ []) = tt
unit_own (r ∷ c ∷ []) = tt
unit_own (r ∷ c ∷ m ∷ []) = tt
unit_own (r ∷ c ∷ m ∷ g ∷ []) = tt
unit_own (r ∷ c ∷ m ∷ g ∷ f ∷ []) = tt
unit_own (r ∷ c ∷ m ∷ g ∷ f ∷ n ∷ []) = tt
unit_own (r ∷ c ∷ m ∷ g ∷ f ∷ n ∷ w ∷ []) = tt
unit_own (r ∷ c ∷ m ∷ g ∷ f ∷ n ∷ w ∷ b ∷ []) = tt
unit_own (r ∷ c ∷ m ∷ g ∷ f ∷ n ∷ w ∷ b ∷ p ∷ []) = tt
unit_own (r ∷ c ∷ m ∷ g ∷ f ∷ n ∷ w ∷ b ∷ p ∷ s ∷ []) = tt
unit_own (r ∷ c ∷ m ∷ g ∷ f ∷ n ∷ w ∷ b ∷ p ∷ s ∷ e ∷ []) = tt
unit_own (r ∷ c ∷ m ∷ g ∷ f ∷ n ∷ w ∷ b ∷ p ∷ s ∷ e ∷ o ∷ []) =
    unit_own_by r c m g f n w b p s e o (channels_at c m g f) (channels_own c m g f) (slice_get formats n) (format_placed n)
    (width_at w b) (width_own w b) (slice_get polarities p) (polarity_placed p) (slice_get flags s) (flag_placed s)
    (slice_get endiannesses e) (endianness_placed e) (slice_get orders o) (order_placed o)
unit_own (r ∷ c ∷ m ∷ g ∷ f ∷ n ∷ w ∷ b ∷ p ∷ s ∷ e ∷ o ∷ x ∷ row) =
    rw (longer (length (r ∷ c ∷ m ∷ g ∷ f ∷ n ∷ w ∷ b ∷ p ∷ s ∷ e ∷ o ∷ x ∷ row)) 12 (omega arith)) tt

own : (row : List ℕ) (u : UnitConfig) → IfSome (unit_in row) (λ v. IsRowOf row v) → unit_in row ≡ Some u → IsRowOf row u
own row u h e = rw e at h

pub reads_unit : (row : List ℕ) (u : UnitConfig) → IsRowOf row u ↔ (unit_in row ≡ Some u)
reads_unit row u =
    ((λ h. rw h.numbers (unit_read h.mask u h.made h.count_fits h.mask_fits h.bits_fit)), own row u (unit_own row))
