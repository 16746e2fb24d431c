mod Slices
mod Kept
mod Said
mod Wide
mod WideSaid
