mod Lasts
mod Coming
mod Displacing
mod Over
mod Releasing
mod Fronts
