pub mod Chains
mod Walks
mod Layers
mod InOrder
mod Ways
mod Owned
