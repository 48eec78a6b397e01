mod Addresses
mod Distinct
mod Items
mod OneKey
