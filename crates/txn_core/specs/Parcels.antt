-- parcels as contracts see them
use Rattle.acts_core.specs.Load.{Load}
use Rattle.txn_core.specs.declared.parcels.Parcel.{Parcel}
use Rattle.txn_core.specs.Shown.{Shown, load}

abbrev pub shown : Parcel → Shown
shown p = record { message = p.message; size = p.size; receipt = p.receipt; body_at = p.body_at; delivered = p.delivered }

-- a parcel as a cargo
abbrev pub load_of : Parcel → Load
load_of p = load (shown p)
