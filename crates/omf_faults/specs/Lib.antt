pub mod FaultLines
