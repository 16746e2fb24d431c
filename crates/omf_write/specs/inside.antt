-- What the code asks of what it writes: no public contract cites any of it.
pub mod Fits
