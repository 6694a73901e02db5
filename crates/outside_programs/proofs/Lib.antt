mod Fronts
mod Sublists
