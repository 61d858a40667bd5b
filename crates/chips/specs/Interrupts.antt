-- The driver's events, and those of the two halves. Assumes nothing.
--     tx_named i, rx_named i   the events of that half among i
--     interrupts_of own t r    those of own that are reported in the halves' marks t and r
use Rattle.std.specs.Prelude.{false}
use Rattle.marks.specs.declared.Events.{Events}
use Rattle.marks.specs.declared.Marks.{Marks}
use Rattle.marks.specs.Events.{intersection}
use Rattle.chips.specs.declared.interrupts.I2sInterrupts.{I2sInterrupts}

abbrev pub tx_named : I2sInterrupts → Events
tx_named i = record { hung = i.tx_hung; done = i.tx_done; link_done = false; eof = false }

abbrev pub rx_named : I2sInterrupts → Events
rx_named i = record { hung = i.rx_hung; done = i.rx_done; link_done = false; eof = false }

abbrev pub reported_in : Events → Marks → Events
reported_in own m = intersection (intersection m.events m.enabled) own

abbrev pub interrupts_of : Events → Marks → Marks → I2sInterrupts
interrupts_of own t r = record {
  rx_hung = (reported_in own r).hung;
  tx_hung = (reported_in own t).hung;
  rx_done = (reported_in own r).done;
  tx_done = (reported_in own t).done;
}
