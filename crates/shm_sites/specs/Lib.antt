pub mod Cluster
