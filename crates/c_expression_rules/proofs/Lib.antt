pub mod Args
pub mod Gates
pub mod SlotRows
