mod Arriving
mod Entries
mod Outdated
mod Leaving
mod Leaves
mod Places
mod Starting
mod Tried
