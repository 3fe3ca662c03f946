pub mod Whole
pub mod Shown
pub mod Parcels
pub mod ContentFits
pub mod Staged
